-- The records of the threads that were read.
use Rattle.std.proofs.Common.{◌≡◌, ℕ, Bool, true, false, List, [], ◌∷◌, ◌||◌, if◌then◌else◌, map, refl, sym, ap, ◌∙◌}
use Rattle.std.specs.List.{list_any}
use Rattle.std.proofs.lemmas.List.Folds.{list_any-append}
use Rattle.redo_types.specs.declared.redo.Redo.{Redo}
use Rattle.redo_merge.specs.declared.tagged.Tagged.{Tagged}
use Rattle.redo_merge.specs.Merge.{all_records, records_of}
use Rattle.inst_state.specs.declared.inst.ReadThread.{ReadThread}
use Rattle.report_steps.specs.Recovering.{redo_of}

-- a test that looks at the record alone finds one among those of a thread, with or without the thread's number
pub any_tagged : (p : Redo → Bool) (thread : ℕ) (records : List Redo)
    → list_any (λ (it : Tagged). p it.redo) (map (λ redo. record { thread = thread; redo = redo }) records) ≡ list_any p records
any_tagged p thread [] = refl
any_tagged p thread (redo ∷ rest) = ap (λ b. p redo || b) (any_tagged p thread rest)

-- a test that looks at the record alone finds one among all records where it finds one in some thread
pub any_record : (p : Redo → Bool) (threads : List ReadThread)
    → list_any (λ (it : Tagged). p it.redo) (all_records (map redo_of threads)) ≡ list_any (λ (read : ReadThread). list_any p read.records) threads
any_record p [] = refl
any_record p (read ∷ rest) =
    list_any-append (λ (it : Tagged). p it.redo) (records_of (redo_of read)) (all_records (map redo_of rest))
    ∙ ap (λ b. b || list_any (λ (it : Tagged). p it.redo) (all_records (map redo_of rest))) (any_tagged p read.thread read.records)
    ∙ ap (λ b. list_any p read.records || b) (any_record p rest)

-- the same of records that count only if they belong to the last change of membership, which they do
pub any_lost : (fresh : Bool) (p : Redo → Bool) (threads : List ReadThread) → fresh ≡ true
    → list_any (λ (read : ReadThread). list_any p read.records) threads ≡ list_any (λ (it : Tagged). p it.redo) (if fresh then all_records (map redo_of threads) else [])
any_lost true p threads is = sym (any_record p threads)
any_lost false p threads is = search

-- no record counts that doesn't belong to the last change of membership
pub none_lost : (fresh : Bool) (p : Tagged → Bool) (all : List Tagged) → fresh ≡ false → false ≡ list_any p (if fresh then all else [])
none_lost true p all is = search
none_lost false p all is = refl
