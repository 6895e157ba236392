-- How far the logs of a disk were read.
use Rattle.std.proofs.Common.{◌≡◌, ◌<◌, ◌+◌, ◌∙◌, ℕ, List, [], ◌∷◌, ◌++◌, length, take, Option, None, Some, IfSome, sym, ap, subst, arith}
use Rattle.std.proofs.lemmas.List.{get_or-map, length-map, take_more}
use Rattle.rac_disk.specs.Content.{Content, LogState, log_at, no_log}
use Rattle.log_audit.specs.Audits.{Keeps, logs_in}

-- The first logs of a disk, so many, have these bytes, and the disk still tells the same.
pub record AreRead (count : ℕ) (bytes : List (List ℕ)) (it : Content) (now : Option Content) : Type 0 where
  pub same : now ≡ Some it
  pub bytes_are : bytes ≡ take count (logs_in it)
  pub logs : 0 < count → length it.logs ≡ 8

abbrev pub ReadSoFar : ℕ → List (List ℕ) → Option Content → Option Content → Type 0
ReadSoFar count bytes old now = IfSome old (λ it. AreRead count bytes it now)

-- the log at a place
pub log_in : (it : Content) (thread : ℕ) → thread < length it.logs
    → take (thread + 1) (logs_in it) ≡ take thread (logs_in it) ++ log_at it thread ∷ []
log_in it thread within =
    let as_long = length-map it.logs (λ (log : LogState). log.bytes) in
    let room : thread < length (logs_in it) = omega arith in
    take_more (logs_in it) thread [] room
    ∙ ap (λ (bytes : List ℕ). take thread (logs_in it) ++ bytes ∷ []) (get_or-map (λ (log : LogState). log.bytes) it.logs thread no_log [] within)

-- one log more
pub read_more : (count : ℕ) (bytes : List (List ℕ)) (log : List ℕ) (old mid new : Option Content) → count < 8 → ReadSoFar count bytes old mid
    → IfSome mid (λ it. log ≡ log_at it count) → Keeps mid new → ReadSoFar (count + 1) (bytes ++ log ∷ []) old new
read_more count bytes log None mid new few so_far is kept = tt
read_more count bytes log (Some it) mid new few so_far is kept =
    let keeps : Keeps (Some it) new = subst (λ (disk : Option Content). Keeps disk new) so_far.same kept in
    let read : log ≡ log_at it count = subst (λ (disk : Option Content). IfSome disk (λ it. log ≡ log_at it count)) so_far.same is in
    let within : count < length it.logs = omega (arith, keeps.0.logs) in
    record {
      same = keeps.1;
      bytes_are =
          ap (λ (first : List (List ℕ)). first ++ log ∷ []) so_far.bytes_are
          ∙ ap (λ (last : List ℕ). take count (logs_in it) ++ last ∷ []) read ∙ sym (log_in it count within);
      logs = λ _. keeps.0.logs;
    }
