-- Actors that count for themselves and hand a token on: the rules of the machine.
use Rattle.std.specs.Prelude.{◌≡◌, ◌≢◌, ℕ, ◌+◌, ◌%◌, ◌^◌, ◌≤◌, cond, ltb, List, [], ◌∷◌, Option, Some, None}
use Rattle.step_book.specs.Actors.{Rules}
use Rattle.token_ring.specs.declared.ring.Step.{Step}
use Rattle.token_ring.specs.declared.ring.Step.TheVariants.{Counted, Passed}
use Rattle.token_ring.specs.declared.ring.Counter.{Counter}
use Rattle.token_ring.specs.declared.ring.Token.{Token}

abbrev pub actor_of : Step → ℕ
actor_of (Counted actor) = actor
actor_of (Passed actor) = actor

abbrev pub waiting_by : Option ℕ → List Step
waiting_by (Some actor) = Counted actor ∷ []
waiting_by None = []

-- the part after a count, which waits no more
abbrev pub counted : Counter → Counter
counted p = record { count = (p.count + 1) % 2 ^ 64; mark = None }

-- the token with one more count noted
abbrev pub noted : Token → Token
noted t = record t { counts = (t.counts + 1) % 2 ^ 64 }

-- the token in the next actor's hands
abbrev pub passed : ℕ → Token → Token
passed me t = record t { holder = cond (ltb (me + 1) t.actors) (me + 1) 0; passes = t.passes + 1 }

abbrev pub ring : Rules Counter Token Step
ring = record {
  actor = actor_of;
  waiting = λ p. waiting_by p.mark;
  bare = λ p. record p { mark = None };
  local = λ me p s q. (s ≡ Counted me) × (q ≡ counted p);
  noted = λ me p s t. noted t;
  shared = λ me p t s q u. (s ≡ Passed me) × (q ≡ p) × (u ≡ passed me t);
  sound = λ parts t. Unit {0};
  over = λ t. 100 ≤ t.passes;
  idle = λ me p t. t.holder ≢ me;
}
