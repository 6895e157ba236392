-- `same_xid` is equality of names of transactions.
use Rattle.std.proofs.Common.{◌≡◌, ◌∙◌, ℕ, Bool, true, false, ◌&&◌, ◌==◌, refl, ap}
use Rattle.std.proofs.lemmas.Bool.{eqb-true, eq-eqb}
use Rattle.base_types.specs.declared.names.Xid.{Xid}
use Rattle.journal.specs.Past.{same_xid}

abbrev made : ℕ → ℕ → ℕ → Xid
made seg slot wrap = record { seg = seg; slot = slot; wrap = wrap }

-- both sides of a conjunction that is true are true
pub both_true : (a b : Bool) → (a && b) ≡ true → (a ≡ true) × (b ≡ true)
both_true true b h = (refl, h)
both_true false b h = (cc)

pub same_xid-refl : (x : Xid) → same_xid x x ≡ true
same_xid-refl x = rw (eq-eqb x.seg x.seg refl, eq-eqb x.slot x.slot refl, eq-eqb x.wrap x.wrap refl) refl

pub same_xid-true : (x y : Xid) → same_xid x y ≡ true → x ≡ y
same_xid-true x y h =
    let a = both_true (x.seg == y.seg && x.slot == y.slot) (x.wrap == y.wrap) h in
    let b = both_true (x.seg == y.seg) (x.slot == y.slot) a.0 in
    let seg = eqb-true x.seg y.seg b.0 in
    let slot = eqb-true x.slot y.slot b.1 in
    let wrap = eqb-true x.wrap y.wrap a.1 in
    ap (λ (n : ℕ). made n x.slot x.wrap) seg
    ∙ (ap (λ (n : ℕ). made y.seg n x.wrap) slot ∙ ap (λ (n : ℕ). made y.seg y.slot n) wrap)
