-- A run in which a loss takes back the clocks that a Thaw raised: instance 0 has drawn ten SCNs that are nowhere on disk.
-- Instance 2 is lost, and the Thaw raises the clocks to 10; but before instance 1 has taken a packet, instance 0 is lost
-- too. The next Thaw raises them to 0, and the first change of instance 1 bears the SCN 1.
use Rattle.std.proofs.Common.{◌≡◌, ◌≢◌, ℕ, ◌+◌, ◌≤◌, Bool, true, false, [], ◌∷◌, refl, subst, arith, inl, inr}
use Rattle.std.specs.Prelude.{Option, None, nat_lt, max}
use Rattle.std.proofs.lemmas.Bool.{ltb-true}
use Rattle.block_protocol.specs.Block.{Hold, Write, Moves, Quiet, Idle, put}
use Rattle.block_protocol.specs.Steps.{asks, arrives, begins_to_clear, gives, installs_from_disk, ends, changes, raises, takes_entry}
use Rattle.block_protocol.specs.Members.{Thawed, Running, Cluster}
use Rattle.block_protocol.specs.Turns.{numbered, loses, reports, closes, thaws, reopens, resumes}
use Rattle.block_protocol.specs.ClusterRuns.{first, Turns, ends_here, goes_on}
use Rattle.block_protocol.proofs.Basics.{none-some, put-elim}
use Rattle.block_protocol.proofs.Phases.{nothing-comes}
use Rattle.block_protocol.proofs.SampleDark.{nothing}
use Rattle.block_protocol.proofs.SampleRebuilt.{grant1, no-version, plain, same, nobody}

-- who is live after instance 2 is lost, and after instance 0 is lost too
abbrev pub two : ℕ → Bool
two = put (λ i. nat_lt i 3) 2 false

abbrev pub one : ℕ → Bool
one = put two 0 false

two-are : (i : ℕ) → two i ≡ true → (0 ≢ i → 1 ≡ i)
two-are i = put-elim (λ b. b ≡ true → 0 ≢ i → 1 ≡ i) (λ j. nat_lt j 3) 2 false i (λ gone e. absurd (let clash : false ≡ true = e in cc))
    (λ ne e zero. let lt = ltb-true i 3 e in omega (arith, lt, zero, ne))

one-is : (i : ℕ) → one i ≡ true → 1 ≡ i
one-is i = put-elim (λ b. b ≡ true → 1 ≡ i) two 0 false i (λ gone e. absurd (let clash : false ≡ true = e in cc)) (λ ne e. two-are i e ne)

put-low : (f : ℕ → ℕ) (i a b : ℕ) → a ≤ b → ((j : ℕ) → f j ≤ b) → (j : ℕ) → put f i a j ≤ b
put-low f i a b le all j = put-elim (λ x. x ≤ b) f i a j (λ here. le) (λ ne. all j)

drawn : (j : ℕ) → put (put (λ i. 0) 0 10) 2 0 j ≤ 10
drawn = put-low (put (λ i. 0) 0 10) 2 0 10 (omega arith) (put-low (λ i. 0) 0 10 10 (omega arith) (λ i. omega arith))

fell : (j : ℕ) → one j ≡ true → put (put (put (put (λ i. 0) 0 10) 2 0) 0 10) 0 0 j ≤ 0
fell j up = subst (λ n. put (put (put (put (λ i. 0) 0 10) 2 0) 0 10) 0 0 n ≤ 0) (one-is j up) (omega arith)

-- the images, after each loss
abbrev pub first-images : ℕ → Option Hold
first-images = put (λ i. None) 2 None

abbrev pub then-images : ℕ → Option Hold
then-images = put (numbered (λ i. i + 1) first-images) 0 None

first-none : (i : ℕ) → first-images i ≡ None
first-none i = nothing (λ j. None) 2 (λ j. refl) i

then-none : (i : ℕ) → then-images i ≡ None
then-none i = nothing (numbered (λ j. j + 1) first-images) 0 (λ j. nobody (j + 1) (first-images j) (first-none j)) i

last-none : (i : ℕ) → numbered (λ j. j + 1) then-images i ≡ None
last-none i = nobody (i + 1) (then-images i) (then-none i)

first-pasts : (i : ℕ) → put (λ j. no-version) 2 None i ≡ None
first-pasts i = nothing (λ j. no-version) 2 (λ j. refl) i

then-pasts : (i : ℕ) → put (put (λ j. no-version) 2 None) 0 None i ≡ None
then-pasts i = nothing (put (λ j. no-version) 2 None) 0 first-pasts i

first-reported : (i : ℕ) → two i ≡ true → put (put (λ j. false) 0 true) 1 true i ≡ true
first-reported i up = put-elim (λ b. b ≡ true) (put (λ j. false) 0 true) 1 true i (λ here. refl)
    (λ ne. put-elim (λ b. b ≡ true) (λ j. false) 0 true i (λ here. refl) (λ zero. absurd (ne (two-are i up zero))))

then-reported : (i : ℕ) → one i ≡ true → put (λ j. false) 1 true i ≡ true
then-reported i up = put-elim (λ b. b ≡ true) (λ j. false) 1 true i (λ here. refl) (λ ne. absurd (ne (one-is i up)))

first-closed : (t : ℕ) → put (put (λ j. false) 2 true) 2 false t ≡ false
first-closed t = put-elim (λ b. b ≡ false) (put (λ j. false) 2 true) 2 false t (λ here. refl) (λ ne. put-elim (λ b. b ≡ false) (λ j. false) 2 true t (λ here. absurd (ne here)) (λ n. refl))

then-closed : (t : ℕ) → put (put (put (put (λ j. false) 2 true) 2 false) 0 true) 0 false t ≡ false
then-closed t = put-elim (λ b. b ≡ false) (put (put (put (λ j. false) 2 true) 2 false) 0 true) 0 false t (λ here. refl)
    (λ ne. put-elim (λ b. b ≡ false) (put (put (λ j. false) 2 true) 2 false) 0 true t (λ here. absurd (ne here)) (λ n. first-closed t))

first-running : (i : ℕ) → two i ≡ true → put (λ t. nat_lt t 3) 2 false i ≡ true
first-running i up = up

then-running : (i : ℕ) → one i ≡ true → put (put (λ t. nat_lt t 3) 2 false) 0 false i ≡ true
then-running i up = up

abbrev pub again : Cluster
again = record {
  members = record {
    phase = Thawed;
    live = one;
    reported = put (λ j. false) 1 true;
    paused = one;
    unclosed = put (put (put (put (λ t. false) 2 true) 2 false) 0 true) 0 false;
    running = put (put (λ t. nat_lt t 3) 2 false) 0 false;
    found = λ t. 0;
    position = put (put (λ t. 0) 2 0) 0 0;
    actual = put (put (put (put (λ i. 0) 0 10) 2 0) 0 10) 0 0;
    bound = 0;
  };
  block = record {
    place = Moves 0;
    lists = numbered (λ i. i + 1) then-images;
    next = 1;
    op = Idle;
    written = 0;
    frame = numbered (λ i. i + 1) then-images;
    version = λ i. 0;
    dirty = λ i. false;
    request = λ i. Quiet;
    copies = put (put (put (put (put (λ i. []) 2 []) 0 []) 1 []) 0 []) 1 [];
    clock = λ i. max (put (put (put (put (λ j. 0) 0 10) 2 0) 0 10) 0 0 i) 0;
    past = put (put (λ i. None) 2 None) 0 None;
    memos = [];
    notes = [];
    records = [];
    disk = 0;
    floor = 0;
    used = [];
    served = [];
  };
  global = λ i. false;
  mine = put (put (λ i. None) 2 None) 0 None;
  rebuilt = false;
}

-- instance 0 draws ten SCNs; then two losses, and a Thaw after each
pub twice : (drawn : Cluster) × Turns (first 3 0) drawn × (drawn.block.clock 0 ≡ 10) × Turns drawn again
twice = (
  _,
  goes_on (plain _ _ (raises _ 0 10 (omega arith)) tt tt tt) (ends_here _),
  refl,
  goes_on (loses _ 2 0 10 [] [] (λ t. 0) refl (record { parts = refl; waited = tt }) (nothing-comes _ _ _ _) tt (record { above = record { clocks = λ j up. drawn j; threads = λ t. omega arith }; reached = inl (0, refl, omega arith) }))
      (goes_on (reports _ 0 refl refl (λ f e d. absurd (none-some _ f (first-none 0) e)))
      (goes_on (reports _ 1 refl refl (λ f e d. absurd (none-some _ f (first-none 1) e)))
      (goes_on (closes _ 2 refl (0, refl) first-reported (inr (inr (first-pasts, tt))) refl (λ live. absurd (let clash : false ≡ true = live in cc)))
      (goes_on (thaws _ (λ i. i + 1) 1 10 refl (0, refl) first-reported (inr (inr (first-pasts, tt))) first-closed first-running
      (record { above = λ i. omega arith; below = λ i f e. absurd (none-some _ f (first-none i) e); apart = λ i j f x e y s. absurd (none-some _ f (first-none i) e) })
      (record { clocks = λ j up. drawn j; threads = λ t. omega arith }))
      (goes_on (plain _ _ (raises _ 0 10 (omega arith)) tt tt tt)
      (goes_on (loses _ 0 0 0 [] [] (λ t. 0) refl (record { parts = refl; waited = tt }) (nothing-comes _ _ _ _) tt (record { above = record { clocks = fell; threads = λ t. omega arith }; reached = inr (0, omega arith) }))
      (goes_on (reports _ 1 refl refl (λ f e d. absurd (none-some _ f (then-none 1) e)))
      (goes_on (closes _ 0 refl (1, refl) then-reported (inr (inr (then-pasts, tt))) refl (λ live. absurd (let clash : false ≡ true = live in cc)))
      (goes_on (thaws _ (λ i. i + 1) 1 0 refl (1, refl) then-reported (inr (inr (then-pasts, tt))) then-closed then-running
      (record { above = λ i. omega arith; below = λ i f e. absurd (none-some _ f (then-none i) e); apart = λ i j f x e y s. absurd (none-some _ f (then-none i) e) })
      (record { clocks = fell; threads = λ t. omega arith }))
      (ends_here _)))))))))),
)

pub taken-back : (w : Cluster) × (w.members.phase ≡ Running) × (w.block.records ≡ record { maker = 1; scn = 1; durable = false } ∷ []) × Turns again w
taken-back = (
  _,
  refl,
  refl,
  goes_on (reopens _ refl)
      (goes_on (resumes _ 1 refl (omega arith))
      (goes_on (plain _ _ (takes_entry _ 1 0 refl (omega arith)) tt tt tt)
      (goes_on (plain _ _ (asks _ 1 Write refl tt refl) tt tt tt)
      (goes_on (plain _ _ (arrives _ 1 Write 0 refl (omega arith)) tt tt tt)
      (goes_on (plain _ _ (begins_to_clear _ 1 Write [] refl refl refl (λ n. refl) (λ i h e. absurd (none-some _ h (last-none i) e)) (record { each = tt; all = λ j h e n. absurd (none-some _ h (last-none j) e) })) tt tt tt)
      (goes_on (plain _ _ (gives _ 1 Write refl (λ j h e. absurd (none-some _ h (last-none j) e))) tt tt tt)
      (goes_on (plain _ _ (installs_from_disk _ 1 grant1 0 refl (omega arith)) tt refl (same 0))
      (goes_on (plain _ _ (ends _ 1 grant1 refl) tt tt tt)
      (goes_on (plain _ _ (changes _ 1 grant1 refl refl) tt tt (same 0))
      (ends_here _)))))))))),
)
