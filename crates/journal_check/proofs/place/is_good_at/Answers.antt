-- Each kind of entry is asked what its own parts say.
use Rattle.journal_check.proofs.PlaceLemmas.{iff_trans, not_iff, marked_iff, undone_iff, committed_iff, acked_iff}
use Rattle.journal_check.proofs.place.is_good_at.Goals as goal

pub returns-in-Marked : goal.returns-in-Marked
returns-in-Marked c =
    rw c.in-Marked.is
    (iff_trans (not_iff c.has_commit.result _ c.has_commit.ensures) (marked_iff _ _ _ c.in-Marked.stmt c.in-Marked.xid c.in-Marked.commit_scn))

pub returns-in-Undone : goal.returns-in-Undone
returns-in-Undone c =
    rw c.in-Undone.is
    (iff_trans (not_iff c.has_commit-in-Undone.result _ c.has_commit-in-Undone.ensures) (undone_iff _ _ _ c.in-Undone.xid c.in-Undone.left))

pub returns-in-Committed : goal.returns-in-Committed
returns-in-Committed c =
    rw c.in-Committed.is (iff_trans c.commit_is_proper.ensures (committed_iff _ _ _ c.in-Committed.xid c.in-Committed.commit_scn c.in-Committed.inst))

pub returns-in-Acked : goal.returns-in-Acked
returns-in-Acked c =
    rw c.in-Acked.is (iff_trans c.ack_is_proper.ensures (acked_iff _ _ _ c.in-Acked.stmt c.in-Acked.xid c.in-Acked.commit_scn))
