-- What stands at the front is one thing.
use Rattle.std.proofs.Common.{◌≡◌, ℕ, ◌≤◌, inl, inr, List, length, refl, sym, ◌∙◌, arith}
use Rattle.redo_types.specs.declared.redo.Redo.{Redo}
use Rattle.redo_types.specs.declared.redo.RedoKind.{RedoKind}
use Rattle.redo_types.specs.declared.redo.RedoKind.TheVariants.{Change, Commit, Lock, RollbackEnd, StepBack}
use Rattle.base_types.specs.Bytes.{number_at}
use Rattle.part_image.specs.Cells.{Begins}
use Rattle.part_image.proofs.Numbers.{IsBytes}
use Rattle.redo_record.specs.declared.front.Front.TheVariants.{Whole}
use Rattle.redo_record.specs.Front.{BeginsWith, IsLength}
use Rattle.redo_record.specs.Parts.{start_of}
use Rattle.redo_record.specs.Redo.{IsRedo, length_of, redo_bytes}
use Rattle.redo_record.proofs.Joined.{long_where_begun}
use Rattle.redo_record.proofs.RecordLemmas.{one_redo, record_parts, record_size}
use Rattle.redo_record.proofs.StartLemmas.{start_parts}

-- the length in the first two bytes of a record is its length
pub length_at_front : (bytes : List ℕ) (r : Redo) → IsRedo r → Begins bytes (redo_bytes r) → number_at 2 bytes 0 ≡ length (redo_bytes r)
length_at_front bytes r is begins =
    let parts = record_parts bytes r is begins in
    (start_parts bytes (start_of r) parts.is_start parts.start).form.0 ∙ sym (record_size r is)

enough : (a b c : ℕ) → a ≡ b → b ≤ c → a ≤ c
enough a b c is le = omega arith

-- bytes that begin with a record are as many as the length says, or more
pub whole_at_front : (bytes : List ℕ) (r : Redo) → BeginsWith bytes r → number_at 2 bytes 0 ≤ length bytes
whole_at_front bytes r (is, begins) =
    let said = length_at_front bytes r is begins in
    let long = long_where_begun bytes (redo_bytes r) begins in
    enough (number_at 2 bytes 0) (length (redo_bytes r)) (length bytes) said long

whole_of : (r s : Redo) (m n : ℕ) → r ≡ s → m ≡ n → Whole r m ≡ Whole s n
whole_of r s m n same size = rw (same, size) refl

-- two answers that are right are the same
pub same_whole : (bytes : List ℕ) (r s : Redo) (n : ℕ) → IsBytes bytes → BeginsWith bytes r → n ≡ number_at 2 bytes 0 → BeginsWith bytes s → Whole r n ≡ Whole s (length (redo_bytes s))
same_whole bytes r s n fits (is_r, begins_r) is_n (is_s, begins_s) =
    let same = one_redo bytes r s fits is_r is_s begins_r begins_s in
    let size : n ≡ length (redo_bytes s) = is_n ∙ length_at_front bytes s is_s begins_s in
    whole_of r s n (length (redo_bytes s)) same size

-- the length of a record is one of three
pub is_length : (kind : RedoKind) → IsLength (length_of kind)
is_length Change = inl refl
is_length Lock = inl refl
is_length StepBack = inr (inl refl)
is_length Commit = inr (inr refl)
is_length RollbackEnd = inr (inr refl)
