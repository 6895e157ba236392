-- A log read record by record.
use Rattle.std.proofs.Common.{◌≡◌, ℕ, ◌-◌, ◌≤◌, inl, inr, true, false, ◌==◌, All, List, [], ◌∷◌, ◌++◌, length, take, drop, refl, sym, ap, subst, ◌∙◌, arith}
use Rattle.std.proofs.lemmas.Bool.{eqb-true}
use Rattle.std.proofs.lemmas.List.{append-nil, append_assoc, length-append, nil_from_length, take-append-drop}
use Rattle.std.proofs.lemmas.List.Concat.{flat_map-append}
use Rattle.std.proofs.lemmas.List.Elements.{All-push, recursion_from_All}
use Rattle.redo_types.specs.declared.redo.Redo.{Redo}
use Rattle.redo_types.specs.declared.redo.RedoKind.{RedoKind}
use Rattle.redo_types.specs.declared.redo.RedoKind.TheVariants.{Change, Commit, Lock, RollbackEnd, StepBack}
use Rattle.redo_record.specs.Front.{BeginsWith, IsTorn, log_bytes}
use Rattle.redo_record.specs.Redo.{IsRedo, length_of, redo_bytes}
use Rattle.redo_record.proofs.FrontLemmas.{whole_at_front}
use Rattle.redo_record.proofs.Joined.{long_where_begun}
use Rattle.redo_record.proofs.RecordLemmas.{record_size}
use Rattle.log_history.specs.LogHistory.{IsLog}
use Rattle.log_history.specs.Logs.{IsEnd, IsRead, IsWrongAt, is_some}
use Rattle.log_history.specs.declared.reading.Log.{Log}

some_length : (kind : RedoKind) → 88 ≤ length_of kind
some_length Change = omega arith
some_length Lock = omega arith
some_length StepBack = omega arith
some_length Commit = omega arith
some_length RollbackEnd = omega arith

-- what begins with a record has its bytes and more, and these are some
pub long_front : (bytes : List ℕ) (r : Redo) → BeginsWith bytes r → (1 ≤ length (redo_bytes r)) × (length (redo_bytes r) ≤ length bytes)
long_front bytes r begins =
    let size = record_size r begins.0 in
    let some = some_length r.kind in
    (omega arith, long_where_begun bytes (redo_bytes r) begins.1)

-- no record stands at the end
pub none_at_end : (bytes : List ℕ) → IsEnd bytes → (r : Redo) → BeginsWith bytes r → ⊥
none_at_end bytes (inl empty) r begins =
    let long = long_front bytes r begins in
    let none = ap length empty in
    omega (arith, long.0, long.1)
none_at_end bytes (inr (inl few)) r begins =
    let size = record_size r begins.0 in
    let some = some_length r.kind in
    let long = long_where_begun bytes (redo_bytes r) begins.1 in
    omega arith
none_at_end bytes (inr (inr cut)) r begins =
    let whole = whole_at_front bytes r begins in
    omega (arith, cut.0)

pub log_bytes-push : (records : List Redo) (r : Redo) → log_bytes (records ++ r ∷ []) ≡ log_bytes records ++ redo_bytes r
log_bytes-push records r = flat_map-append redo_bytes records (r ∷ []) ∙ ap (λ (t : List ℕ). log_bytes records ++ t) (append-nil (redo_bytes r))

-- behind one more record
pub spelled_more : (bytes rest : List ℕ) (records : List Redo) (r : Redo) (n : ℕ) → bytes ≡ log_bytes records ++ rest → BeginsWith rest r → n ≡ length (redo_bytes r) → bytes ≡ log_bytes (records ++ r ∷ []) ++ drop n rest
spelled_more bytes rest records r n spelled begins is =
    let split : rest ≡ redo_bytes r ++ drop n rest = sym (take-append-drop n rest) ∙ ap (λ (t : List ℕ). t ++ drop n rest) (ap (λ (m : ℕ). take m rest) is ∙ begins.1) in
    spelled ∙ ap (λ (t : List ℕ). log_bytes records ++ t) split
    ∙ sym (append_assoc (log_bytes records) (redo_bytes r) (drop n rest))
    ∙ ap (λ (t : List ℕ). t ++ drop n rest) (sym (log_bytes-push records r))

-- where the whole records end
pub log_at_end : (bytes rest : List ℕ) (records : List Redo) → All IsRedo records → bytes ≡ log_bytes records ++ rest → IsEnd rest → IsLog bytes records rest
log_at_end bytes rest records all spelled ends = record { each = recursion_from_All IsRedo records all; spelled = spelled; no_more = none_at_end rest ends }

pub place_is : (bytes rest : List ℕ) (records : List Redo) → bytes ≡ log_bytes records ++ rest → length bytes - length rest ≡ length (log_bytes records)
place_is bytes rest records spelled =
    let both = ap length spelled ∙ length-append (log_bytes records) rest in
    omega arith

pub some_where_long : (rest : List ℕ) → 1 ≤ length rest → is_some rest ≡ true
some_where_long [] long = absurd (omega arith)
some_where_long (byte ∷ rest) long = refl

-- what stands there is no record, cut short or not
pub wrong_here : (bytes rest : List ℕ) (records : List Redo) (place : ℕ) → place ≡ length bytes - length rest → All IsRedo records → bytes ≡ log_bytes records ++ rest → 1 ≤ length rest → (IsTorn rest → ⊥) → ((r : Redo) → BeginsWith rest r → ⊥) → IsWrongAt bytes place
wrong_here bytes rest records place is all spelled long no_cut no_more = record {
  records = records;
  rest = rest;
  is_log = record { each = recursion_from_All IsRedo records all; spelled = spelled; no_more = no_more };
  at = is ∙ place_is bytes rest records spelled;
  wrong = λ ends. elim ends [
    | inl empty ↦
        let none = ap length empty in
        omega arith
    | inr cut ↦ no_cut cut
  ];
}

-- what a test on how many bytes there are says
pub some_bytes : (rest : List ℕ) → false ≡ (length rest == 0) → 1 ≤ length rest
some_bytes [] told = absurd cc
some_bytes (byte ∷ rest) told = omega arith

pub no_bytes : (rest : List ℕ) → true ≡ (length rest == 0) → rest ≡ []
no_bytes rest told = nil_from_length rest (eqb-true (length rest) 0 (sym told))

-- one more record was read
pub next_record : (bytes rest next : List ℕ) (records new : List Redo) (r : Redo) (n : ℕ) → new ≡ records ++ r ∷ [] → next ≡ drop n rest → All IsRedo records → bytes ≡ log_bytes records ++ rest → BeginsWith rest r → n ≡ length (redo_bytes r)
    → All IsRedo new × (bytes ≡ log_bytes new ++ next)
next_record bytes rest next records new r n pushed behind all spelled begins is = (
  subst (λ (rs : List Redo). All IsRedo rs) (sym pushed) (All-push IsRedo records r all begins.0),
  spelled_more bytes rest records r n spelled begins is ∙ ap (λ (t : List ℕ). log_bytes (records ++ r ∷ []) ++ t) (sym behind) ∙ ap (λ (rs : List Redo). log_bytes rs ++ next) (sym pushed),
)

-- the log ends with a record cut short
pub torn_read : (bytes rest : List ℕ) (log : Log) → log.len ≡ length bytes - length rest → log.torn ≡ true → All IsRedo log.records → bytes ≡ log_bytes log.records ++ rest → 1 ≤ length rest → IsTorn rest → IsRead bytes log
torn_read bytes rest log len torn all spelled long cut = record {
  rest = rest;
  is_log = log_at_end bytes rest log.records all spelled (inr cut);
  ends = inr cut;
  len = len ∙ place_is bytes rest log.records spelled;
  torn = torn ∙ sym (some_where_long rest long);
}

-- the log ends with its last record
pub whole_read : (bytes rest : List ℕ) (log : Log) → log.len ≡ length bytes → log.torn ≡ false → All IsRedo log.records → bytes ≡ log_bytes log.records ++ rest → rest ≡ [] → IsRead bytes log
whole_read bytes rest log len torn all spelled none =
    let whole : bytes ≡ log_bytes log.records ++ [] = spelled ∙ ap (λ (t : List ℕ). log_bytes log.records ++ t) none in
    record {
      rest = [];
      is_log = log_at_end bytes [] log.records all whole (inl refl);
      ends = inl refl;
      len = len ∙ ap length (whole ∙ append-nil (log_bytes log.records));
      torn = torn;
    }
