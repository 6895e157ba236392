-- Each step keeps the images at or below the clocks as they are, and what was used below a live clock or an SCN on disk.
use Rattle.std.proofs.Common.{◌≡◌, ℕ, ◌+◌, ◌≤◌, Bool, true, false, List, ◌∷◌, sym, arith, inl, inr}
use Rattle.std.specs.Prelude.{Some, None, max}
use Rattle.std.proofs.lemmas.Bool.{cases_lt}
use Rattle.block_protocol.specs.Block.{Exclusive, Hold, Operation, Record, Block, put}
use Rattle.block_protocol.specs.Sound.{Frames, Sound}
use Rattle.block_protocol.specs.Guard.{Clocks, GoodClocks}
use Rattle.block_protocol.specs.Steps.{left, forced, Step, invalidates, ships, serves_copy, installs_shipped, installs_from_disk, installs_held, evicts, changes, forces, uses, raises}
use Rattle.block_protocol.specs.Members.{Rise, Reaches, Permits, IsAwake, actual_after}
use Rattle.block_protocol.specs.Lasting.{Absent, Settled}
use Rattle.block_protocol.proofs.Basics.{Shrinks, Shrinks-drop, put-elim, put-some, put-same}
use Rattle.block_protocol.proofs.ClockParts.{left-shrinks, top-forced, put-rises}
use Rattle.block_protocol.proofs.Directory.{one-seat}
use Rattle.block_protocol.proofs.LocalSteps.{image-live}

pub reaches-below : (live : ℕ → Bool) (clock found : ℕ → ℕ) (y z : ℕ) → z ≤ y → Reaches live clock found y → Reaches live clock found z
reaches-below live clock found y z le r = elim r [
  | inl x ↦ inl (x.0, x.1, let up = x.2 in omega (arith, le, up))
  | inr x ↦ inr (x.0, let up = x.1 in omega (arith, le, up))
]

-- what was used stays below a live clock or what is on disk
pub reaches-rises : (live : ℕ → Bool) (clock after found later : ℕ → ℕ) (z : ℕ) → Rise clock after → Rise found later → Reaches live clock found z → Reaches live after later z
reaches-rises live clock after found later z c f r = elim r [
  | inl x ↦ inl (x.0, x.1, let le = c x.0 in let up = x.2 in omega (arith, le, up))
  | inr x ↦ inr (x.0, let le = f x.0 in let up = x.1 in omega (arith, le, up))
]

reaches-max : (live : ℕ → Bool) (clock found : ℕ → ℕ) (y z : ℕ) → Reaches live clock found y → Reaches live clock found z → Reaches live clock found (max y z)
reaches-max live clock found y z a b = elim (cases_lt y z) [
  | inl lt ↦ reaches-below live clock found z (max y z) (omega (arith, lt)) b
  | inr le ↦ reaches-below live clock found y (max y z) (omega (arith, le)) a
]

pub Settled-found : (live : ℕ → Bool) (actual found later : ℕ → ℕ) (frame : Frames) (clock : ℕ → ℕ) (made : List Record) (floor : ℕ) → Rise found later → Settled live actual found frame clock made floor
    → Settled live actual later frame clock made floor
Settled-found live actual found later frame clock made floor rises m = record {
  behind = m.behind;
  images = m.images;
  bounded = reaches-rises live actual actual found later floor (λ j. omega arith) rises m.bounded;
}

abbrev pub SettledAt : (ℕ → Bool) → (ℕ → ℕ) → (ℕ → ℕ) → Block → Type 0
SettledAt live actual found s = Settled live actual found s.frame s.clock s.records s.floor

Settled-fewer : (s : Block) (live : ℕ → Bool) (actual found : ℕ → ℕ) (less : Frames) → Shrinks s.frame less → SettledAt live actual found s → Settled live actual found less s.clock s.records s.floor
Settled-fewer s live actual found less shrinks m = record {
  behind = m.behind;
  images = record {
    newest = m.images.newest;
    image = λ j f e. m.images.image j f (shrinks j f e);
    holder = λ j f e x. m.images.holder j f (shrinks j f e) x;
    way = tt;
  };
  bounded = m.bounded;
}

-- an image comes to an instance whose clock is as it counts
Settled-comes : (s : Block) (live : ℕ → Bool) (actual found : ℕ → ℕ) (a : ℕ) (k : Hold) (op : Operation) → actual a ≡ s.clock a → Clocks (put s.frame a (Some k)) op s.clock s.records s.floor
    → SettledAt live actual found s → Settled live actual found (put s.frame a (Some k)) s.clock s.records s.floor
Settled-comes s live actual found a k op awake g m = record {
  behind = m.behind;
  images = record {
    newest = m.images.newest;
    image = λ j f e. elim (put-some s.frame a k j f e) [
      | inl p ↦ (let le = g.image j f e in let same : j ≡ a = p.0 in let here : actual j ≡ s.clock j = rw same awake in omega (arith, le, here))
      | inr p ↦ m.images.image j f p.1
    ];
    holder = λ j f e x. elim (put-some s.frame a k j f e) [
      | inl p ↦ (let le = g.holder j f e x in let same : j ≡ a = p.0 in let here : actual j ≡ s.clock j = rw same awake in omega (arith, le, here))
      | inr p ↦ m.images.holder j f p.1 x
    ];
    way = tt;
  };
  bounded = m.bounded;
}

-- an image is used up to an SCN that its instance's clock has come to
Settled-uses : (s : Block) (live : ℕ → Bool) (actual found : ℕ → ℕ) (h : ℕ) (f : Hold) (scn : ℕ) → s.frame h ≡ Some f → scn ≤ actual h → Reaches live actual found scn → Sound s → SettledAt live actual found s
    → Settled live actual found s.frame s.clock s.records (max s.floor scn)
Settled-uses s live actual found h f scn image le reached t m = record {
  behind = m.behind;
  images = record {
    newest = let low = m.images.newest in omega (arith, low);
    image = m.images.image;
    holder = λ j x e mode. let same : h ≡ j = (one-seat s t).held j h x f e mode image in let near : scn ≤ actual j = rw same at le in let low = m.images.holder j x e mode in omega (arith, near, low);
    way = tt;
  };
  bounded = reaches-max live actual found s.floor scn m.bounded reached;
}

Settled-changes : (s : Block) (live : ℕ → Bool) (actual found : ℕ → ℕ) (i : ℕ) (f : Hold) → s.frame i ≡ Some f → f.mode ≡ Exclusive → actual i ≡ s.clock i → live i ≡ true → Sound s → SettledAt live actual found s
    → Settled live (put actual i (s.clock i + 1)) found s.frame (put s.clock i (s.clock i + 1)) (record { maker = i; scn = s.clock i + 1; durable = false } ∷ s.records) (max s.floor (s.clock i + 1))
Settled-changes s live actual found i f image mode awake up t m =
    let rises : Rise actual (put actual i (s.clock i + 1)) = λ j. put-rises actual i (s.clock i + 1) j (omega (arith, awake)) in
    record {
      behind = λ j. put-elim (λ x. put actual i (s.clock i + 1) j ≤ x) s.clock i (s.clock i + 1) j
          (λ same. rw (sym same, put-same actual i (s.clock i + 1)) (omega arith))
          (λ ne. put-elim (λ x. x ≤ s.clock j) actual i (s.clock i + 1) j (λ same. absurd (ne same)) (λ n. m.behind j));
      images = record {
        newest = omega arith;
        image = λ j x e. let same : j ≡ i = (one-seat s t).held i j f x image mode e in rw (same, put-same actual i (s.clock i + 1)) (omega arith);
        holder = λ j x e z. let same : j ≡ i = (one-seat s t).held i j f x image mode e in let low = m.images.holder i f image mode in rw (same, put-same actual i (s.clock i + 1)) (omega (arith, low, awake));
        way = tt;
      };
      bounded = reaches-max live (put actual i (s.clock i + 1)) found s.floor (s.clock i + 1) (reaches-rises live actual (put actual i (s.clock i + 1)) found found s.floor rises (λ j. omega arith) m.bounded)
          (inl (i, up, rw (put-same actual i (s.clock i + 1)) (omega arith)));
    }

Settled-raises : (s : Block) (live : ℕ → Bool) (actual found : ℕ → ℕ) (i scn : ℕ) → s.clock i ≤ scn → SettledAt live actual found s
    → Settled live (put actual i scn) found s.frame (put s.clock i scn) s.records s.floor
Settled-raises s live actual found i scn le m =
    let rises : Rise actual (put actual i scn) = λ j. put-rises actual i scn j (let low = m.behind i in omega (arith, low, le)) in
    record {
      behind = λ j. put-elim (λ x. put actual i scn j ≤ x) s.clock i scn j
          (λ same. rw (sym same, put-same actual i scn) (omega arith))
          (λ ne. put-elim (λ x. x ≤ s.clock j) actual i scn j (λ same. absurd (ne same)) (λ n. m.behind j));
      images = record {
        newest = m.images.newest;
        image = λ j f e. let low = m.images.image j f e in let up = rises j in omega (arith, low, up);
        holder = λ j f e x. let low = m.images.holder j f e x in let up = rises j in omega (arith, low, up);
        way = tt;
      };
      bounded = reaches-rises live actual (put actual i scn) found found s.floor rises (λ j. omega arith) m.bounded;
    }

Settled-forces : (s : Block) (live : ℕ → Bool) (actual found : ℕ → ℕ) (i : ℕ) → SettledAt live actual found s → Settled live actual found s.frame s.clock (forced i s.records) s.floor
Settled-forces s live actual found i m = record {
  behind = m.behind;
  images = record {
    newest = rw (top-forced i s.records) m.images.newest;
    image = λ j f e. rw (top-forced i s.records) (m.images.image j f e);
    holder = m.images.holder;
    way = tt;
  };
  bounded = m.bounded;
}

pub Settled-step : {s t : Block} (step : Step s t) (live : ℕ → Bool) (actual found : ℕ → ℕ) → IsAwake actual step → Permits live found step → Sound s → GoodClocks t → Absent live s.frame s.past s.copies
    → SettledAt live actual found s → SettledAt live (actual_after step actual) found t
Settled-step (invalidates s h f rest takes image) live actual found awake p t g a m = Settled-fewer s live actual found (put s.frame h None) (Shrinks-drop s.frame h) m
Settled-step (ships s x k h n f e image forced) live actual found awake p t g a m = Settled-fewer s live actual found (left s.frame h k.mode) (left-shrinks s.frame h k.mode) m
Settled-step (evicts s i f image clean quiet serves) live actual found awake p t g a m = Settled-fewer s live actual found (put s.frame i None) (Shrinks-drop s.frame i) m
Settled-step (serves_copy s i h n f e image forced) live actual found awake p t g a m =
    Settled-uses s live actual found h f (s.clock h) image (omega (arith, awake)) (inl (h, image-live s live h f image a, omega (arith, awake))) t m
Settled-step (installs_shipped s x k v d scn e le) live actual found awake p t g a m = Settled-comes s live actual found x k _ awake g m
Settled-step (installs_from_disk s x k scn e le) live actual found awake p t g a m = Settled-comes s live actual found x k _ awake g m
Settled-step (installs_held s x k scn e le) live actual found awake p t g a m = Settled-comes s live actual found x k _ awake g m
Settled-step (changes s i f image mode) live actual found awake p t g a m = Settled-changes s live actual found i f image mode awake (image-live s live i f image a) t m
Settled-step (forces s i) live actual found awake p t g a m = Settled-forces s live actual found i m
Settled-step (uses s i f scn image le) live actual found awake p t g a m = Settled-uses s live actual found i f scn image (omega (arith, le, awake)) (inr p) t m
Settled-step (raises s i scn le) live actual found awake p t g a m = Settled-raises s live actual found i scn le m
Settled-step step live actual found awake p t g a m = m
