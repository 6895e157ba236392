-- Entries that tell of no end, or of one.
use Rattle.std.proofs.Common.{◌≡◌, ◌≤◌, ◌+◌, ℕ, Bool, true, false, List, [], ◌∷◌, ◌++◌, ◌∙◌, refl, ap, arith, length, length-append, Option, None, Some}
use Rattle.std.specs.Prelude.{cond, filter, fold, if◌then◌else◌}
use Rattle.std.proofs.lemmas.List.Elements.{filter-append}
use Rattle.journal.specs.declared.cause.Cause.TheVariants as cause
use Rattle.journal.specs.declared.entry.Entry.{Entry}
use Rattle.journal.specs.declared.entry.Entry.TheVariants.{Committed, Ended, Refused}
use Rattle.rac_disk.specs.State.{State}
use Rattle.inst_state.specs.declared.inst.Inst.{Inst}
use Rattle.inst_state.specs.declared.inst.WaitingEnd.{WaitingEnd}
use Rattle.inst_state.specs.Sessions.{is_idle}
use Rattle.inst_state.specs.State.{session_at, stmt_at}
use Rattle.inst_loss.specs.LostCore.{is_kept_commit, with_commit, with_refusal}
use Rattle.inst_loss.specs.declared.ends.Loss.TheVariants as loss
use Rattle.run_laws.specs.Ends.{IsEndCounted, HasRisen, IsLater, ends_in, fault_ends_in, is_end, is_fault_end}
use Rattle.run_laws.specs.Tells.{kept_tells, loss_entry, lost_tells}

-- lists

pub ends-append : (xs ys : List Entry) → ends_in (xs ++ ys) ≡ ends_in xs + ends_in ys
ends-append xs ys = ap (λ (es : List Entry). length es) (filter-append is_end xs ys) ∙ length-append (filter is_end xs) (filter is_end ys)

pub faults-append : (xs ys : List Entry) → fault_ends_in (xs ++ ys) ≡ fault_ends_in xs + fault_ends_in ys
faults-append xs ys =
    ap (λ (es : List Entry). length es) (filter-append is_fault_end xs ys) ∙ length-append (filter is_fault_end xs) (filter is_fault_end ys)

-- ends by faults are ends
pub faults_are_ends : (xs : List Entry) → fault_ends_in xs ≤ ends_in xs
faults_are_ends [] = omega arith
faults_are_ends (Ended inst true ∷ xs) = let more = faults_are_ends xs in omega arith
faults_are_ends (Ended inst false ∷ xs) = let more = faults_are_ends xs in omega arith
faults_are_ends (_ ∷ xs) = faults_are_ends xs

front_ends : (e : Entry) (es : List Entry) → is_end e ≡ false → ends_in (e ∷ es) ≡ ends_in es
front_ends e es other = ap (λ (b : Bool). length (cond b (e ∷ filter is_end es) (filter is_end es))) other

-- an entry that tells of no end, where a test holds
pub where_ends : (b : Bool) (e : Entry) (es : List Entry) → is_end e ≡ false → ends_in (if b then e ∷ es else es) ≡ ends_in es
where_ends true e es other = front_ends e es other
where_ends false e es other = refl

-- an entry that tells of no end, where a test fails
pub unless_ends : (b : Bool) (e : Entry) (es : List Entry) → is_end e ≡ false → ends_in (if b then es else e ∷ es) ≡ ends_in es
unless_ends true e es other = refl
unless_ends false e es other = front_ends e es other

pub fold_ends : {A : Type 0} (f : List Entry → A → List Entry) → ((es : List Entry) (x : A) → ends_in (f es x) ≡ ends_in es) → (xs : List A) (es : List Entry)
    → ends_in (fold f es xs) ≡ ends_in es
fold_ends {A = A} f quiet [] es = refl
fold_ends {A = A} f quiet (x ∷ xs) es = fold_ends f quiet xs (f es x) ∙ quiet es x

-- the loss of an instance

commit_ends : (me kept : ℕ) (es : List Entry) (end : WaitingEnd) → ends_in (with_commit me kept es end) ≡ ends_in es
commit_ends me kept es end = where_ends (is_kept_commit kept end) (Committed end.xid end.scn me) es refl

kept_ends : (n : Inst) (kept : Option ℕ) → ends_in (kept_tells n kept) ≡ 0
kept_ends n None = refl
kept_ends n (Some kept) = fold_ends (with_commit n.plan.me kept) (commit_ends n.plan.me kept) n.ends []

refusal_ends : (n : Inst) (es : List Entry) (z : ℕ) → ends_in (with_refusal n es z) ≡ ends_in es
refusal_ends n es z = unless_ends (is_idle (session_at n z).doing) (Refused (stmt_at n z) cause.Lost) es refl

refusals_ends : (n : Inst) → ends_in (fold (with_refusal n) [] n.plan.mine) ≡ 0
refusals_ends n = fold_ends (with_refusal n) (refusal_ends n) n.plan.mine []

pub crash_ends : (n : Inst) (line : ℕ) (kept : Option ℕ) → ends_in (lost_tells n (loss.Crashed line) kept) ≡ 0
crash_ends n line kept =
    let all = ends-append (fold (with_refusal n) [] n.plan.mine) (loss_entry n (loss.Crashed line) ∷ kept_tells n kept) in
    let refused = refusals_ends n in
    let entered = kept_ends n kept in
    omega arith

stop_ends : (n : Inst) (bad : Bool) (kept : Option ℕ) → ends_in (lost_tells n (loss.Ended bad) kept) ≡ 1
stop_ends n bad kept =
    let all = ends-append (fold (with_refusal n) [] n.plan.mine) (loss_entry n (loss.Ended bad) ∷ kept_tells n kept) in
    let refused = refusals_ends n in
    let entered = kept_ends n kept in
    omega arith

bad_faults : (n : Inst) (kept : Option ℕ) → fault_ends_in (lost_tells n (loss.Ended true) kept) ≡ 0
bad_faults n kept =
    let all = faults-append (fold (with_refusal n) [] n.plan.mine) (loss_entry n (loss.Ended true) ∷ kept_tells n kept) in
    let refused = refusals_ends n in
    let no_more = faults_are_ends (fold (with_refusal n) [] n.plan.mine) in
    let entered = kept_ends n kept in
    let no_later = faults_are_ends (kept_tells n kept) in
    omega arith

-- what a step tells, and what it did to the disk's counts

-- a step that tells of no end
pub quiet : (entries : List Entry) (old new : State) → IsLater old new → ends_in entries ≡ 0 → IsEndCounted entries old new
quiet entries old new later none =
    let no_more = faults_are_ends entries in
    record { later = later; one = omega arith; counted = λ (some : 1 ≤ fault_ends_in entries). absurd (omega arith) }

-- an instance that ends by what no run leaves on the disk
pub bad_stop : (n : Inst) (kept : Option ℕ) (old new : State) → IsLater old new → IsEndCounted (lost_tells n (loss.Ended true) kept) old new
bad_stop n kept old new later =
    let one = stop_ends n true kept in
    let none = bad_faults n kept in
    record { later = later; one = omega arith; counted = λ (some : 1 ≤ fault_ends_in (lost_tells n (loss.Ended true) kept)). absurd (omega arith) }

-- an instance that ends by a fault of the disk
pub fault_stop : (n : Inst) (kept : Option ℕ) (old new : State) → IsLater old new → HasRisen old new → IsEndCounted (lost_tells n (loss.Ended false) kept) old new
fault_stop n kept old new later risen =
    let one = stop_ends n false kept in
    record { later = later; one = omega arith; counted = λ some. risen }

-- entries that tell of no end stand behind others
pub then_quiet : (entries more : List Entry) (old new : State) → ends_in more ≡ 0 → IsEndCounted entries old new → IsEndCounted (entries ++ more) old new
then_quiet entries more old new none it =
    let all = ends-append entries more in
    let faults = faults-append entries more in
    let no_more = faults_are_ends more in
    let one = it.one in
    record {
      later = it.later;
      one = omega arith;
      counted = λ (some : 1 ≤ fault_ends_in (entries ++ more)). it.counted (omega arith);
    }
