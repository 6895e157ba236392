-- One piece of a log more is read, and one log more.
use Rattle.std.proofs.Common.{◌≡◌, ◌≢◌, ◌<◌, ◌≤◌, ◌+◌, ◌-◌, ◌++◌, ℕ, List, take, drop, length, min, slice_index_or, Option, None, Some, IfSome, ap, sym, subst, ◌∙◌, inl, inr, arith, get_or-set_same}
use Rattle.std.proofs.Math.Seq.{take-add}
use Rattle.std.proofs.lemmas.Bool.{cases_eq}
use Rattle.std.proofs.lemmas.List.{take_all, take_min}
use Rattle.rac_disk.specs.Content.{Content, LogState, no_log, log_at, room_at, with_log}
use Rattle.file_disk.specs.Opening.{HasLogs}

-- an append that has room leaves its piece behind the log
pub piece_put : (holds : Option (List ℕ)) (old new : Content) (thread at free : ℕ) (piece : List ℕ) → thread < length old.logs → new ≡ with_log old thread (log_at old thread ++ take free piece) → length piece ≤ free → IfSome holds (λ bytes. piece ≡ take 4096 (drop at bytes)) → IfSome holds (λ bytes. log_at new thread ≡ log_at old thread ++ take 4096 (drop at bytes))
piece_put None old new thread at free piece inside after fits read = tt
piece_put (Some bytes) old new thread at free piece inside after fits read =
    let put : LogState = record { bytes = log_at old thread ++ take free piece; room = room_at old thread } in
    ap (λ (it : Content). log_at it thread) after
    ∙ ap (λ (log : LogState). log.bytes) (get_or-set_same old.logs thread put no_log inside)
    ∙ ap (λ (l : List ℕ). log_at old thread ++ l) (take_all free piece fits ∙ read)

-- a piece more is read
pub more_read : (holds told : Option (List ℕ)) (len left count : ℕ) (log log_now : List ℕ) → told ≡ holds → left ≤ len → IfSome holds (λ bytes. (len ≡ length bytes) × (log ≡ take (len - left) bytes)) → IfSome told (λ bytes. count ≡ min 4096 (length bytes - (len - left))) → IfSome told (λ bytes. log_now ≡ log ++ take 4096 (drop (len - left) bytes)) → IfSome holds (λ bytes. (len ≡ length bytes) × (log_now ≡ take (len - (left - count)) bytes))
more_read None told len left count log log_now same within read counted piece = tt
more_read (Some bytes) told len left count log log_now same within read counted piece =
    let many : count ≡ min 4096 (length bytes - (len - left)) = subst (λ (t : Option (List ℕ)). IfSome t (λ bytes. count ≡ min 4096 (length bytes - (len - left)))) same counted in
    let more : log_now ≡ log ++ take 4096 (drop (len - left) bytes) = subst (λ (t : Option (List ℕ)). IfSome t (λ bytes. log_now ≡ log ++ take 4096 (drop (len - left) bytes))) same piece in
    let place : min (len - left + 4096) (length bytes) ≡ len - (left - count) = omega (arith, many, read.0, within) in (
      read.0,
      more ∙ ap (λ (l : List ℕ). l ++ take 4096 (drop (len - left) bytes)) read.1 ∙ sym (take-add (len - left) 4096 bytes)
          ∙ sym (take_min (len - left + 4096) bytes) ∙ ap (λ (n : ℕ). take n bytes) place,
    )

-- a log more is read
pub one_log_more : (count : ℕ) (files : List (Option (List ℕ))) (old new : Content) → HasLogs count files old → IfSome (slice_index_or files count None) (λ bytes. log_at new count ≡ bytes) → ((k : ℕ) → k ≢ count → log_at new k ≡ log_at old k) → HasLogs (count + 1) files new
one_log_more count files old new has log others = λ k below. elim (cases_eq k count) [
  | inl here ↦ subst (λ (n : ℕ). IfSome (slice_index_or files n None) (λ bytes. log_at new n ≡ bytes)) (sym here) log
  | inr other ↦ let before : k < count = omega (arith, below, other) in
      along (slice_index_or files k None) (log_at old k) (log_at new k) (others k other) (has k before)
]
  where
    along : (told : Option (List ℕ)) (a b : List ℕ) → b ≡ a → IfSome told (λ bytes. a ≡ bytes) → IfSome told (λ bytes. b ≡ bytes)
    along None a b same is = tt
    along (Some bytes) a b same is = same ∙ is
