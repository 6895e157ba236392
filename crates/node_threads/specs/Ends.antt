-- How actors end.
use Rattle.std.specs.Prelude.{◌≡◌, ℕ, Bool, true}
use Rattle.node_threads.specs.declared.end.WhyStopped.{WhyStopped}
use Rattle.node_threads.specs.declared.end.WhyStopped.TheVariants.{Gate, NoMemory}
use Rattle.node_threads.specs.declared.end.End.{End}
use Rattle.node_threads.specs.declared.end.End.TheVariants.{Finished, Stopped, Failed}

module _ {N : Type 0} where
  -- of two ends the one to be told: a failure, that of the first actor before that of the second; else that the run has ended
  abbrev pub earlier : End N → End N → End N
  earlier (Failed why) b = Failed why
  earlier Finished (Failed why) = Failed why
  earlier Finished Finished = Finished
  earlier Finished Stopped = Finished
  earlier Stopped b = b

  -- a refusal is one that the gate gave
  abbrev pub Caused : (ℕ → N → Type 0) → WhyStopped N → Type 0
  Caused gave (Gate actor refusal) = gave actor refusal
  Caused gave NoMemory = Unit {0}

  -- the run has ended where an actor says so
  abbrev pub Tells : (ℕ → N → Type 0) → Bool → End N → Type 0
  Tells gave ended Finished = ended ≡ true
  Tells gave ended Stopped = Unit {0}
  Tells gave ended (Failed why) = Caused gave why
