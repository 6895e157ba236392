-- Bytes of whole records, and what is left of them.
use Rattle.std.proofs.Common.{◌≡◌, ℕ, ◌+◌, ◌<◌, ◌≤◌, List, [], ◌∷◌, ◌++◌, length, take, drop, refl, sym, ap, subst, ◌∙◌, ◌⊎◌, inl, inr, arith, append_assoc}
use Rattle.std.specs.List.{AllByRecursion}
use Rattle.std.proofs.lemmas.List.{append-nil, length-append, take-append-drop, take_all, take-take, take_at, length-take}
use Rattle.std.proofs.lemmas.List.Concat.{flat_map-append}
use Rattle.std.proofs.lemmas.Bool.{cases_lt}
use Rattle.std.proofs.Math.Seq.{take-append-add}
use Rattle.redo_types.specs.declared.redo.Redo.{Redo}
use Rattle.redo_record.specs.Front.{BeginsWith, log_bytes, ReadsBack}
use Rattle.redo_types.specs.declared.redo.RedoKind.{RedoKind}
use Rattle.redo_types.specs.declared.redo.RedoKind.TheVariants.{Change, Commit, Lock, RollbackEnd, StepBack}
use Rattle.redo_record.specs.Redo.{IsRedo, length_of, redo_bytes}
use Rattle.redo_record.proofs.RecordLemmas.{record_size}
use Rattle.redo_record.proofs.CutLemmas.{cut_reads_back}
use Rattle.log_history.specs.Logs.{IsEnd, IsRight, IsWrongAt}
use Rattle.log_history.proofs.LogLemmas.{none_at_end}
use Rattle.log_history.proofs.OneWay.{one_way}
use Rattle.log_laws.specs.Logs.{IsWhole}

both_each : (rs ss : List Redo) → AllByRecursion IsRedo rs → AllByRecursion IsRedo ss → AllByRecursion IsRedo (rs ++ ss)
both_each [] ss a b = b
both_each (r ∷ rs) ss a b = (a.0, both_each rs ss a.1 b)

pub log_bytes-append : (rs ss : List Redo) → log_bytes (rs ++ ss) ≡ log_bytes rs ++ log_bytes ss
log_bytes-append rs ss = flat_map-append redo_bytes rs ss

pub nothing_whole : (bytes : List ℕ) → bytes ≡ [] → IsWhole bytes
nothing_whole bytes e = record { records = []; each = tt; spelled = e }

-- whole records behind whole records
pub whole_append : (a b : List ℕ) → IsWhole a → IsWhole b → IsWhole (a ++ b)
whole_append a b p q = record {
  records = p.records ++ q.records;
  each = both_each p.records q.records p.each q.each;
  spelled = ap (λ (x : List ℕ). x ++ b) p.spelled ∙ ap (λ (x : List ℕ). log_bytes p.records ++ x) q.spelled ∙ sym (log_bytes-append p.records q.records);
}

pub record_whole : (r : Redo) → IsRedo r → IsWhole (redo_bytes r)
record_whole r is = record { records = r ∷ []; each = (is, tt); spelled = sym (append-nil (redo_bytes r)) }

pub same_whole : (a b : List ℕ) → a ≡ b → IsWhole a → IsWhole b
same_whole a b e p = subst IsWhole e p

-- records that are whole, and a rest that is none
pub right_behind : (bytes rest : List ℕ) (w : IsWhole bytes) → IsEnd rest → IsRight (bytes ++ rest)
right_behind bytes rest w ends = record {
  records = w.records;
  rest = rest;
  is_log = record { each = w.each; spelled = ap (λ (x : List ℕ). x ++ rest) w.spelled; no_more = none_at_end rest ends };
  ends = ends;
}

pub right_where_whole : (bytes : List ℕ) → IsWhole bytes → IsRight bytes
right_where_whole bytes w = subst IsRight (append-nil bytes) (right_behind bytes [] w (inl refl))

right_more : (r : Redo) (bytes : List ℕ) → BeginsWith bytes r → IsRight (drop (length (redo_bytes r)) bytes) → IsRight bytes
right_more r bytes begins back = record {
  records = r ∷ back.records;
  rest = back.rest;
  is_log = record {
    each = (begins.0, back.is_log.each);
    spelled = sym (take-append-drop (length (redo_bytes r)) bytes)
        ∙ ap (λ (x : List ℕ). x ++ drop (length (redo_bytes r)) bytes) begins.1
        ∙ ap (λ (x : List ℕ). redo_bytes r ++ x) back.is_log.spelled
        ∙ sym (append_assoc (redo_bytes r) (log_bytes back.records) back.rest);
    no_more = back.is_log.no_more;
  };
  ends = back.ends;
}

right_back : (bytes : List ℕ) (rs : List Redo) → ReadsBack bytes rs → IsRight bytes
right_back bytes [] ends = record {
  records = [];
  rest = bytes;
  is_log = record { each = tt; spelled = refl; no_more = none_at_end bytes ends };
  ends = ends;
}
right_back bytes (r ∷ rs) back = right_more r bytes back.0 (right_back (drop (length (redo_bytes r)) bytes) rs back.1)

-- the first bytes of whole records are a right log
pub right_cut : (bytes : List ℕ) (cut : ℕ) → IsWhole bytes → IsRight (take cut bytes)
right_cut bytes cut w =
    let back = cut_reads_back w.records cut w.each in
    subst (λ (x : List ℕ). IsRight (take cut x)) (sym w.spelled) (right_back (take cut (log_bytes w.records)) (take back.whole w.records) back.reads_back)

-- a log of which some of what waits behind it is left
pub right_spilled : (log waiting : List ℕ) (count : ℕ) → IsWhole (log ++ waiting) → IsRight (log ++ take count waiting)
right_spilled log waiting count w =
    let split : take (length log + count) (log ++ waiting) ≡ log ++ take count waiting = take-append-add log waiting count in
    subst IsRight split (right_cut (log ++ waiting) (length log + count) w)

-- a right log is not wrong
pub not_wrong : (bytes : List ℕ) (place : ℕ) → IsRight bytes → IsWrongAt bytes place → ⊥
not_wrong bytes place right wrong =
    let same = one_way bytes right.records wrong.records right.rest wrong.rest right.is_log wrong.is_log in
    wrong.wrong (subst IsEnd same.1 right.ends)

-- the first bytes of first bytes are the first of them
whole_less : (a b : ℕ) (bytes : List ℕ) → IsWhole (take a bytes) → IsWhole (take b bytes) → (a < b) ⊎ (b ≤ a) → IsWhole (take a (take b bytes))
whole_less a b bytes p q (inl less) = same_whole (take a bytes) (take a (take b bytes)) (sym (take-take a b bytes (omega (arith, less)))) p
whole_less a b bytes p q (inr more) =
    same_whole (take b bytes) (take a (take b bytes)) (sym (take_all a (take b bytes) (omega (arith, length-take b bytes, more)))) q

pub whole_cut : (a b : ℕ) (bytes : List ℕ) → IsWhole (take a bytes) → IsWhole (take b bytes) → IsWhole (take a (take b bytes))
whole_cut a b bytes p q = whole_less a b bytes p q (cases_lt a b)

-- the records read from a place on
pub whole_read : (log : List ℕ) (at : ℕ) (records : List Redo) (rest : List ℕ) → IsWhole (take at log) → AllByRecursion IsRedo records
    → drop at log ≡ log_bytes records ++ rest → IsWhole (take (at + length (log_bytes records)) log)
whole_read log at records rest before each spelled = by (cases_lt at (length log))
  where
    all : log ≡ take at log ++ (log_bytes records ++ rest)
    all = sym (take-append-drop at log) ∙ ap (λ (x : List ℕ). take at log ++ x) spelled

    by : (at < length log) ⊎ (length log ≤ at) → IsWhole (take (at + length (log_bytes records)) log)
    by (inl within) =
        let front = take at log in
        let bs = log_bytes records in
        let len : length front ≡ at = length-take at log ∙ omega (arith, within) in
        let is : take (at + length bs) log ≡ front ++ bs =
        ap (take (at + length bs)) (all ∙ sym (append_assoc front bs rest)) ∙ take_at (front ++ bs) rest (at + length bs) (length-append front bs ∙ omega (arith, len)) in
        same_whole (front ++ bs) (take (at + length bs) log) (sym is) (whole_append front bs before (record { records = records; each = each; spelled = refl }))
    by (inr past) =
        same_whole (take at log) (take (at + length (log_bytes records)) log)
        (take_all at log past ∙ sym (take_all (at + length (log_bytes records)) log (omega (arith, past)))) before

most : (kind : RedoKind) → length_of kind ≤ 236
most Change = omega arith
most Lock = omega arith
most StepBack = omega arith
most Commit = omega arith
most RollbackEnd = omega arith

pub record_length : (r : Redo) → IsRedo r → length (redo_bytes r) ≤ 236
record_length r is = let size = record_size r is in let h = most r.kind in omega (arith, size, h)
