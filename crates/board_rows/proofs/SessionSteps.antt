-- The clauses on sessions, on starts and on the order of entries are kept.
use Rattle.std.proofs.Common.{◌≡◌, ℕ, ◌<◌, ◌≤◌, Bool, true, false, cond, ◌==◌, max, List, [], ◌∷◌, refl, sym, ap, ◌∙◌, arith, inl, inr, ◌⊎◌, Option, Some, None, IsSomeAnd}
use Rattle.std.specs.Option.{option_map_or}
use Rattle.std.specs.List.{AllByRecursion, list_any}
use Rattle.board_rows.proofs.Words.{Xid, Past, same_xid, row_of, is_open, standing, holds, stood, is_commit, is_commit_at, both_true, DeedAt, of_xid, IsFree, deeds_in, committed_at, put, Sessions, Starts, Stage, Over, Fresh, Active}
use Rattle.board_rows.proofs.Lists.{clash}

-- nothing of a transaction has committed
pub none-stood : (x : Xid) (past : Past) → committed_at x past ≡ None → stood (is_commit x) past ≡ false
none-stood x [] h = refl
none-stood x (y ∷ past) h = grind (arith, none-stood x past)

pub some-stood : (x : Xid) (c : ℕ) (past : Past) → committed_at x past ≡ Some c → stood (is_commit_at x c) past ≡ true
some-stood x c [] h = grind arith
some-stood x c (y ∷ past) h = grind (arith, some-stood x c past)

-- who holds a row has a deed there that stands
any-on : (k s : ℕ) (x y : Xid) (committed : Xid → Option ℕ) (mods : List DeedAt) → list_any (λ deed. row_of deed == k) (deeds_in (of_xid y mods)) ≡ true → AllByRecursion (IsFree committed s x k) mods → (y ≡ x) ⊎ IsSomeAnd (committed y) (λ c. c ≤ s)
any-on k s x y committed [] h free = clash false h refl
any-on k s x y committed (m ∷ mods) h free = grind (arith, any-on k s x y committed mods)

-- no other transaction holds a row where it is changed
pub row-free : (k s : ℕ) (x : Xid) (past : Past) (committed : Xid → Option ℕ) (mods : List DeedAt) → ((y : Xid) → is_open y past ≡ true → (committed y ≡ None) × (standing y past ≡ deeds_in (of_xid y mods))) → AllByRecursion (IsFree committed s x k) mods
    → (y : Xid) → holds y k past ≡ true → y ≡ x
row-free k s x past committed mods live free y h =
    let parts = both_true (is_open y past) (list_any (λ deed. row_of deed == k) (standing y past)) h in
    let is = live y parts.0 in
    let any : list_any (λ deed. row_of deed == k) (deeds_in (of_xid y mods)) ≡ true = ap (list_any (λ deed. row_of deed == k)) (sym is.1) ∙ parts.1 in
    elim (any-on k s x y committed mods any free) [ inl e ↦ e | inr l ↦ absurd (rw is.0 at l) ]

module _ {stage_of : Xid → Stage} {last : ℕ → Option Xid} {home : ℕ → Option ℕ} (h : Sessions stage_of last home) where
  -- a session's last transaction is x, its own before or a new one
  pub sessions-changes : (z : ℕ) (x : Xid) → (last z ≡ Some x) ⊎ (stage_of x ≡ Fresh) → home z ≡ Some x.seg → Sessions (λ y. cond (same_xid y x) Active (stage_of y)) (λ y. cond (z == y) (Some x) (last y)) home
  sessions-changes z x mine is = grind arith

  -- it is over
  pub sessions-ends : (x : Xid) (o : Option ℕ) → Sessions (λ y. cond (same_xid y x) (Over o) (stage_of y)) last home
  sessions-ends x o = record { used = λ y w e. grind (arith, h.used y w e); single = h.single; at_home = h.at_home }

module _ {insts : ℕ} {known : ℕ → ℕ} {home : ℕ → Option ℕ} {started : ℕ → ℕ} {came up : ℕ → Bool} {acked : ℕ} (h : Starts insts known home started came up acked) where
  -- a statement starts at what its instance knows then
  pub starts-starts : (z i e : ℕ) → home z ≡ Some i → came z ≡ false → Starts insts (put known i (max (known i) e)) home (λ y. cond (y == z) (max (max (known i) e) (started y)) (started y)) came up acked
  starts-starts z i e = grind arith

  pub starts-acks : (c : ℕ) → ((j : ℕ) → j < insts → up j ≡ true → c ≤ known j) → Starts insts known home started came up (max c acked)
  starts-acks c heard = grind arith

  -- a session's statement starts at or above all that it started at, and all that was answered
  pub starts-proper : (z i e : ℕ) → home z ≡ Some i → up i ≡ true → came z ≡ false → (acked ≤ max (known i) e) × (started z ≤ max (known i) e)
  starts-proper z i e = grind arith

  -- an instance that is down gets new clocks
  pub starts-joins : (i now : ℕ) → up i ≡ false → Starts insts (put known i now) home started came up acked
  starts-joins i now down = grind arith

  -- it comes up: its sessions of before start no more
  pub starts-ups : (i : ℕ) → acked ≤ known i → Starts insts known home started (λ y. cond (option_map_or (λ j. i == j) (home y) false) true (came y)) (λ j. cond (j == i) true (up j)) acked
  starts-ups i le = grind arith

  -- an instance is lost
  pub starts-loses : (i : ℕ) → Starts insts known home started came (λ j. cond (j == i) false (up j)) acked
  starts-loses i = grind arith
