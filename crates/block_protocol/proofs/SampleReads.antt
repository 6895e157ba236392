-- Two runs of readers. In the first, instance 1 changes the block and instance 2 reads a copy of it. In the second, both
-- have shared images, and instance 1 gets the exclusive one once instance 2 has let its image go.
use Rattle.std.proofs.Common.{◌≡◌, ◌≢◌, ℕ, ◌<◌, false, [], ◌∷◌, refl, sym, subst, arith}
use Rattle.std.specs.Prelude.{Option, Some, None}
use Rattle.block_protocol.specs.Block.{Shared, Exclusive, Hold, Read, Write, Upgrade, Invalidate, Block, put, without, count, here}
use Rattle.block_protocol.specs.Sound.{clears, OnlyShared}
use Rattle.block_protocol.specs.Steps.{asks, arrives, begins_to_clear, gives, gives_shared, orders, ships, installs_from_disk, installs_shipped, installs_held, ends, changes, forces, raises, sends_copy, serves_copy, takes_copy, uses, uses_copy, invalidates, hears_gone}
use Rattle.block_protocol.specs.Runs.{start, Run, stays, goes}
use Rattle.block_protocol.proofs.Basics.{none-some, put-elim, out-some}

abbrev pub changer : Hold
changer = record { mode = Exclusive; grant = 1 }

pub copied : (s : Block) × Run (start 0) s × (s.copies 2 ≡ (1, 1) ∷ []) × (s.used ≡ (1, 1) ∷ [])
copied = (
  _,
  goes (asks (start 0) 1 Write refl tt refl)
      (goes (arrives _ 1 Write 0 refl (omega arith))
      (goes (begins_to_clear _ 1 Write [] refl refl refl (λ n. refl) (λ i h e. absurd (none-some None h refl e)) (record { each = tt; all = λ j h e n. absurd (none-some None h refl e) }))
      (goes (gives _ 1 Write refl (λ j h e. absurd (none-some None h refl e)))
      (goes (installs_from_disk _ 1 changer 0 refl (omega arith))
      (goes (ends _ 1 changer refl)
      (goes (changes _ 1 changer refl refl)
      (goes (forces _ 1)
      (goes (asks _ 2 Read refl tt refl)
      (goes (arrives _ 2 Read 0 refl (omega arith))
      (goes (sends_copy _ 2 1 1 refl refl refl)
      (goes (serves_copy _ 2 1 1 changer refl refl (λ e. refl, tt))
      (goes (raises _ 2 1 (omega arith))
      (goes (takes_copy _ 2 1 1 1 refl (omega arith))
      (goes (uses_copy _ 2 1 (1, 1) [] (here []) (omega arith))
      (stays _))))))))))))))),
  refl,
  refl,
)

abbrev pub first_reader : Hold
first_reader = record { mode = Shared; grant = 1 }

abbrev pub second_reader : Hold
second_reader = record { mode = Shared; grant = 2 }

abbrev pub upgraded_hold : Hold
upgraded_hold = record { mode = Exclusive; grant = 3 }

abbrev pub readers : ℕ → Option Hold
readers = put (put (λ i. None) 1 (Some first_reader)) 2 (Some second_reader)

-- of these readers each is instance 1 or instance 2
two-readers : (P : Hold → Type 0) (j : ℕ) (h : Hold) → readers j ≡ Some h → (1 ≡ j → P first_reader) → (2 ≡ j → P second_reader) → P h
two-readers P j h e one two = put-elim (λ o. o ≡ Some h → P h) (put (λ i. None) 1 (Some first_reader)) 2 (Some second_reader) j
    (λ at x. subst P (is second_reader x) (two at))
    (λ ne x. put-elim (λ o. o ≡ Some h → P h) (λ i. None) 1 (Some first_reader) j (λ at y. subst P (is first_reader y) (one at)) (λ n y. absurd (none-some None h refl y)) x) e
  where
    is : (k : Hold) → ◌≡◌ {A = Option Hold} (Some k) (Some h) → k ≡ h
    is k x = cc

all-shared : OnlyShared readers
all-shared j h e = two-readers (λ k. k.mode ≡ Shared) j h e (λ at. refl) (λ at. refl)

all-told : (j : ℕ) (h : Hold) → readers j ≡ Some h → j ≢ 1 → 0 < count (clears h.grant) (Invalidate 2 2 ∷ [])
all-told j h e other = two-readers (λ k. 0 < count (clears k.grant) (Invalidate 2 2 ∷ [])) j h e (λ at. absurd (other (sym at))) (λ at. omega arith)

one-left : (j : ℕ) (h : Hold) → without 2 readers j ≡ Some h → j ≡ 1
one-left j h e =
    let left = out-some 2 readers j h e in
    two-readers (λ k. 2 ≢ k.grant → j ≡ 1) j h left.0 (λ at ne. sym at) (λ at ne. absurd (ne refl)) left.1

pub upgraded : (readers : Block) × (s : Block) × Run (start 0) readers × (readers.frame 1 ≡ Some first_reader) × (readers.frame 2 ≡ Some second_reader)
    × Run readers s × (s.frame 1 ≡ Some upgraded_hold) × (s.frame 2 ≡ None) × (s.version 1 ≡ 1)
upgraded = (
  _,
  _,
  goes (asks (start 0) 1 Read refl tt refl)
      (goes (arrives _ 1 Read 0 refl (omega arith))
      (goes (gives_shared _ 1 refl refl (λ j. refl))
      (goes (installs_from_disk _ 1 first_reader 0 refl (omega arith))
      (goes (ends _ 1 first_reader refl)
      (goes (asks _ 2 Read refl tt refl)
      (goes (arrives _ 2 Read 0 refl (omega arith))
      (goes (orders _ 2 Read 1 1 refl refl (λ n. refl) refl (omega arith))
      (goes (ships _ 2 second_reader 1 1 first_reader refl refl tt)
      (goes (installs_shipped _ 2 second_reader 0 false 0 refl (omega arith))
      (goes (ends _ 2 second_reader refl)
      (goes (uses _ 2 second_reader 0 refl (omega arith))
      (stays _)))))))))))),
  refl,
  refl,
  goes (asks _ 1 Upgrade refl tt (first_reader, refl, refl))
      (goes (arrives _ 1 Upgrade 0 refl (omega arith))
      (goes (begins_to_clear _ 1 Upgrade (Invalidate 2 2 ∷ []) refl refl refl (λ n. absurd (n refl)) all-shared (record { each = ((omega arith, refl), tt); all = all-told }))
      (goes (invalidates _ 2 second_reader [] (here []) refl)
      (goes (hears_gone _ 2 0 [] (here []) (omega arith))
      (goes (gives _ 1 Upgrade refl one-left)
      (goes (installs_held _ 1 upgraded_hold 0 refl (omega arith))
      (goes (ends _ 1 upgraded_hold refl)
      (goes (changes _ 1 upgraded_hold refl refl)
      (stays _))))))))),
  refl,
  refl,
  refl,
)
