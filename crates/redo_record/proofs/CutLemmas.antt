-- What a log reads back as that was cut.
use Rattle.std.proofs.Common.{◌≡◌, ℕ, suc, ◌+◌, ◌-◌, ◌<◌, ◌≤◌, inl, inr, List, [], ◌∷◌, ◌++◌, length, take, drop, refl, sym, ap, subst, ◌∙◌, arith}
use Rattle.std.specs.List.{AllByRecursion}
use Rattle.std.proofs.Math.Seq.{take-nil}
use Rattle.std.proofs.lemmas.Bool.{cases_lt}
use Rattle.std.proofs.lemmas.List.{drop-take, drop_at, length-append, length-take-le, take_at, take-take}
use Rattle.byteorder.specs.Numbers.{big_from-take}
use Rattle.redo_types.specs.declared.redo.Redo.{Redo}
use Rattle.base_types.specs.Bytes.{number_at}
use Rattle.part_image.specs.Cells.{Begins}
use Rattle.redo_record.specs.Front.{CutReadsBack, IsLength, IsTorn, ReadsBack, log_bytes}
use Rattle.redo_record.specs.Redo.{IsRedo, redo_bytes}
use Rattle.redo_record.proofs.FrontLemmas.{is_length, length_at_front}
use Rattle.redo_record.proofs.RecordLemmas.{record_size}

-- a text that begins with its length and is cut short is torn
torn_within : (text rest : List ℕ) (cut : ℕ) → number_at 2 (text ++ rest) 0 ≡ length text → IsLength (length text) → cut < length text → IsTorn (take cut (text ++ rest))
torn_within text rest cut said known within =
    let both = length-append text rest in
    let size : length (take cut (text ++ rest)) ≡ cut = length-take-le cut (text ++ rest) (omega arith) in
    elim (cases_lt cut 2) [
      | inl few ↦ inl (omega arith)
      | inr more ↦
          let number : number_at 2 (take cut (text ++ rest)) 0 ≡ length text = big_from-take 0 2 cut (text ++ rest) more ∙ said in
          inr (omega arith, subst IsLength (sym number) known)
    ]

-- a text in front of others is what they begin with, also where they were cut behind it
text_first : (text rest : List ℕ) → Begins (text ++ rest) text
text_first text rest = take_at text rest (length text) refl

text_within : (text rest : List ℕ) (cut : ℕ) → length text ≤ cut → Begins (take cut (text ++ rest)) text
text_within text rest cut within = take-take (length text) cut (text ++ rest) within ∙ text_first text rest

-- and behind it stands the cut rest
rest_within : (text rest : List ℕ) (cut : ℕ) → length text ≤ cut → drop (length text) (take cut (text ++ rest)) ≡ take (cut - length text) rest
rest_within text rest cut within =
    let split : cut ≡ length text + (cut - length text) = omega arith in
    ap (λ (n : ℕ). drop (length text) (take n (text ++ rest))) split
    ∙ drop-take (length text) (cut - length text) (text ++ rest)
    ∙ ap (take (cut - length text)) (drop_at text rest (length text) refl)

within_more : (text log : List ℕ) (cut : ℕ) → length text ≤ cut → length log ≤ cut - length text → length (text ++ log) ≤ cut
within_more text log cut within rest = omega (arith, length-append text log)

past_more : (text log : List ℕ) (cut : ℕ) → length text ≤ cut → cut - length text < length log → cut < length (text ++ log)
past_more text log cut within rest = omega (arith, length-append text log)

past_first : (text log : List ℕ) (cut : ℕ) → cut < length text → cut < length (text ++ log)
past_first text log cut within = omega (arith, length-append text log)

-- a log cut within its first record
none_whole : (r : Redo) (records : List Redo) (cut : ℕ) → IsRedo r → cut < length (redo_bytes r) → CutReadsBack (r ∷ records) cut
none_whole r records cut is within =
    let size = record_size r is in
    let said = length_at_front (redo_bytes r ++ log_bytes records) r is (text_first (redo_bytes r) (log_bytes records)) in
    record {
      whole = 0;
      are_whole = record { within = omega arith; no_more = λ h. past_first (redo_bytes r) [] cut within };
      reads_back = inr (torn_within (redo_bytes r) (log_bytes records) cut said (subst IsLength (sym size) (is_length r.kind)) within);
    }

fewer : (a b : ℕ) → suc a < suc b → a < b
fewer a b h = omega arith

-- a log cut behind its first record
one_more : (r : Redo) (records : List Redo) (cut : ℕ) → IsRedo r → length (redo_bytes r) ≤ cut → CutReadsBack records (cut - length (redo_bytes r)) → CutReadsBack (r ∷ records) cut
one_more r records cut is within rest =
    let text = redo_bytes r in
    let log = log_bytes records in
    let back : ReadsBack (drop (length text) (take cut (text ++ log))) (take rest.whole records) =
    subst (λ (bytes : List ℕ). ReadsBack bytes (take rest.whole records)) (sym (rest_within text log cut within)) rest.reads_back in
    record {
      whole = suc rest.whole;
      are_whole = record {
        within = within_more text (log_bytes (take rest.whole records)) cut within rest.are_whole.within;
        no_more = λ h. past_more text (log_bytes (take (suc rest.whole) records)) cut within (rest.are_whole.no_more (fewer rest.whole (length records) h));
      };
      reads_back = ((is, text_within text log cut within), back);
    }

pub cut_reads_back : (records : List Redo) (cut : ℕ) → AllByRecursion IsRedo records → CutReadsBack records cut
cut_reads_back [] cut all = record { whole = 0; are_whole = record { within = omega arith; no_more = λ h. absurd (omega arith) }; reads_back = inl (take-nil cut) }
cut_reads_back (r ∷ records) cut all =
    elim (cases_lt cut (length (redo_bytes r))) [
      | inl within ↦ none_whole r records cut all.0 within
      | inr past ↦ one_more r records cut all.0 past (cut_reads_back records (cut - length (redo_bytes r)) all.1)
    ]
