-- The whole records of a log's bytes.
use Rattle.std.proofs.Common.{◌≡◌, ℕ, ◌-◌, ◌≤◌, inl, inr, true, false, All, List, [], ◌++◌, length, refl, ap, ◌∙◌, arith}
use Rattle.std.proofs.lemmas.List.{append-nil}
use Rattle.std.proofs.lemmas.List.Elements.{recursion_from_All}
use Rattle.redo_types.specs.declared.redo.Redo.{Redo}
use Rattle.redo_record.specs.Front.{BeginsWith, IsTorn, log_bytes}
use Rattle.redo_record.specs.Redo.{IsRedo}
use Rattle.log_history.proofs.LogLemmas.{log_at_end, place_is}
use Rattle.thread_steps.specs.Records.{HasRecords}
use Rattle.thread_steps.specs.declared.records.Records.{Records}

-- the log ends with a record cut short
pub torn_end : (bytes rest : List ℕ) (log : Records) → log.len ≡ length bytes - length rest → log.bad ≡ false → All IsRedo log.records → bytes ≡ log_bytes log.records ++ rest → IsTorn rest → HasRecords bytes log
torn_end bytes rest log len good all spelled cut = record {
  are = rw good (record { rest = rest; is_log = log_at_end bytes rest log.records all spelled (inr cut); ends = inr cut });
  len = len ∙ place_is bytes rest log.records spelled;
}

-- what stands behind the records is bad
pub bad_end : (bytes rest : List ℕ) (log : Records) → log.len ≡ length bytes - length rest → log.bad ≡ true → All IsRedo log.records → bytes ≡ log_bytes log.records ++ rest → 1 ≤ length rest → (IsTorn rest → ⊥)
    → ((r : Redo) → BeginsWith rest r → ⊥) → HasRecords bytes log
bad_end bytes rest log len bad all spelled long no_cut no_more = record {
  are = rw bad (record {
    rest = rest;
    is_log = record { each = recursion_from_All IsRedo log.records all; spelled = spelled; no_more = no_more };
    ends = λ ends. elim ends [
      | inl empty ↦
          let none = ap length empty in
          omega arith
      | inr cut ↦ no_cut cut
    ];
  });
  len = len ∙ place_is bytes rest log.records spelled;
}

-- the log ends with its last record
pub whole_end : (bytes rest : List ℕ) (log : Records) → log.len ≡ length bytes → log.bad ≡ false → All IsRedo log.records → bytes ≡ log_bytes log.records ++ rest → rest ≡ [] → HasRecords bytes log
whole_end bytes rest log len good all spelled none =
    let whole : bytes ≡ log_bytes log.records ++ [] = spelled ∙ ap (λ (t : List ℕ). log_bytes log.records ++ t) none in
    record {
      are = rw good (record { rest = []; is_log = log_at_end bytes [] log.records all whole (inl refl); ends = inl refl });
      len = len ∙ ap length (whole ∙ append-nil (log_bytes log.records));
    }
