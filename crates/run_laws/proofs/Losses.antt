-- What the loss of an instance tells.
use Rattle.std.proofs.Common.{◌≡◌, ℕ, List, [], ◌∷◌, ◌++◌, ◌∙◌, refl, ap, sym, append_assoc, Option, None, Some}
use Rattle.std.specs.Prelude.{fold}
use Rattle.journal.specs.declared.cause.Cause.TheVariants as cause
use Rattle.journal.specs.declared.entry.Entry.{Entry}
use Rattle.journal.specs.declared.entry.Entry.TheVariants.{Committed, Refused}
use Rattle.inst_state.specs.declared.inst.Inst.{Inst}
use Rattle.inst_state.specs.declared.inst.Life.{Life}
use Rattle.inst_state.specs.declared.inst.Life.TheVariants.{Joining}
use Rattle.inst_state.specs.declared.inst.WaitingEnd.{WaitingEnd}
use Rattle.inst_state.specs.declared.shared.Core.{Core}
use Rattle.inst_state.specs.Sessions.{is_idle}
use Rattle.inst_state.specs.State.{session_at, stmt_at}
use Rattle.inst_loss.specs.LostCore.{is_kept_commit, kept_told, loss_told, lost_core, start_answered, with_commit, with_refusal}
use Rattle.inst_loss.specs.declared.ends.Loss.{Loss}
use Rattle.inst_loss.specs.declared.ends.Loss.TheVariants as loss
use Rattle.run_laws.specs.Tells.{kept_tells, loss_entry, lost_tells}
use Rattle.run_laws.proofs.Folds.{fold_front, told_unless, told_where}

commit_front : (me kept : ℕ) (es js : List Entry) (end : WaitingEnd) → with_commit me kept (es ++ js) end ≡ with_commit me kept es end ++ js
commit_front me kept es js end = told_where (is_kept_commit kept end) (Committed end.xid end.scn me) es js

refusal_front : (n : Inst) (es js : List Entry) (z : ℕ) → with_refusal n (es ++ js) z ≡ with_refusal n es z ++ js
refusal_front n es js z = told_unless (is_idle (session_at n z).doing) (Refused (stmt_at n z) cause.Lost) es js

kept_journal : (n : Inst) (core : Core) (kept : Option ℕ) → (kept_told n core kept).journal ≡ kept_tells n kept ++ core.journal
kept_journal n core None = refl
kept_journal n core (Some kept) = fold_front (with_commit n.plan.me kept) (commit_front n.plan.me kept) n.ends [] core.journal

start_journal : (life : Life) (core : Core) → (start_answered life core).journal ≡ core.journal
start_journal (Joining line) core = refl
start_journal _ core = refl

loss_journal : (n : Inst) (core : Core) (it : Loss) → (loss_told n core it).journal ≡ loss_entry n it ∷ core.journal
loss_journal n core (loss.Crashed line) = refl
loss_journal n core (loss.Ended bad) = ap (λ (js : List Entry). loss_entry n (loss.Ended bad) ∷ js) (start_journal n.life core)

refusals_journal : (n : Inst) (js : List Entry) → fold (with_refusal n) js n.plan.mine ≡ fold (with_refusal n) [] n.plan.mine ++ js
refusals_journal n js = fold_front (with_refusal n) (refusal_front n) n.plan.mine [] js

-- the journal after the loss of an instance
pub lost_journal : (n : Inst) (core : Core) (it : Loss) (kept : Option ℕ) → (lost_core n core it kept).journal ≡ lost_tells n it kept ++ core.journal
lost_journal n core it kept =
    refusals_journal n (loss_told n (kept_told n core kept) it).journal
    ∙ ap (λ (js : List Entry). fold (with_refusal n) [] n.plan.mine ++ js)
    (loss_journal n (kept_told n core kept) it ∙ ap (λ (js : List Entry). loss_entry n it ∷ js) (kept_journal n core kept))
    ∙ sym (append_assoc (fold (with_refusal n) [] n.plan.mine) (loss_entry n it ∷ kept_tells n kept) core.journal)
