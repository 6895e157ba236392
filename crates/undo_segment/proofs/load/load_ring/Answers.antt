use Rattle.std.proofs.Common.{◌≡◌, ◌+◌, ◌<◌, ◌≤◌, ◌∙◌, ℕ, List, [], ◌∷◌, ◌++◌, Vec, Option, None, Err, Ok, sym, ap, subst, arith, refl}
use Rattle.std.specs.Global.{Global}
use Rattle.std.proofs.lemmas.Result.{err_from_is_err_and}
use Rattle.rac_disk.specs.Content.{Content, block_at}
use Rattle.rac_disk.specs.State.{State}
use Rattle.undo_image.specs.UndoBlock.{UndoContent, undo_bytes}
use Rattle.undo_segment.specs.declared.error.LoadError.{LoadError}
use Rattle.undo_segment.specs.Faults.{undo_fault}
use Rattle.undo_segment.specs.Load.{HoldsRing, IsBadOne, IsBadUndo, Loads}
use Rattle.undo_segment.proofs.LoadLemmas.{RingRead, all_read, fails_more, fails_no_memory, none_read, one_more_read}
use Rattle.undo_segment.proofs.load.load_ring.Goals as goal

-- what a load of a block with a number gives
abbrev Block : ℕ → UndoContent → Content → Type 0
Block number undo it = block_at it number ≡ undo_bytes undo

-- what a load of blocks gives
abbrev Ring : ℕ → Vec UndoContent Global → Content → Type 0
Ring head blocks it = HoldsRing head blocks.items it

-- a bad block behind a header is one of so many
bad_one : (head seg count k b : ℕ) (it : Content) → k < count → IsBadOne (head + 1 + k) seg b it → IsBadUndo head seg count b it
bad_one head seg count k b it few bad =
    (omega (arith, bad.0), omega (arith, bad.0), subst (λ n. IsBadOne n seg b it) (sym bad.0) bad)

fails : (head seg count k number : ℕ) (blocks : List UndoContent) (why : LoadError) (old mid new : State) → number ≡ head + 1 + k → k < count → RingRead head seg k blocks old mid
    → Loads (Block number) (IsBadOne number seg) (Err why) mid new → Loads (Ring head) (IsBadUndo head seg count) (Err why) old new
fails head seg count k number blocks why old mid new is few read loads =
    fails_more (Block number) (Ring head) (IsBadOne number seg) (IsBadUndo head seg count) why old mid new read.told read.calm
    (λ b it bad. bad_one head seg count k b it few (subst (λ n. IsBadOne n seg b it) is bad)) loads

more : (head seg k number : ℕ) (blocks : List UndoContent) (u : UndoContent) (old mid new : State) → number ≡ head + 1 + k → RingRead head seg k blocks old mid → undo_fault number seg u ≡ None
    → Loads (Block number) (IsBadOne number seg) (Ok u) mid new → RingRead head seg (k + 1) (blocks ++ u ∷ []) old new
more head seg k number blocks u old mid new is read faultless loads =
    one_more_read head seg k blocks u (IsBadOne (head + 1 + k) seg) old mid new read
    (subst (λ n. undo_fault n seg u ≡ None) is faultless)
    (subst (λ n. Loads (Block n) (IsBadOne n seg) (Ok u) mid new) is loads)

pub loop-k-init : goal.loop-k-init
loop-k-init g c =
    subst (λ (xs : List UndoContent). RingRead c.args.head c.args.seg 0 xs (g.D.SharedDisk.state c.args.disk.now) (g.D.SharedDisk.state c.args.disk.now)) (sym c.new-blocks.ensures.items)
    (none_read c.args.head c.args.seg (g.D.SharedDisk.state c.args.disk.now))

pub returns-in_err-block-clause-disk : goal.returns-in_err-block-clause-disk
returns-in_err-block-clause-disk g c =
    let p = err_from_is_err_and c.from_residual.result c.from_residual.ensures.1 in
    rw (p.1, p.2)
    (fails c.args.head c.args.seg c.args.count c.loop-k.k _ c.loop-k.blocks.items c.in_err-block.field-0.0
    (g.D.SharedDisk.state c.args.disk.now) (g.D.SharedDisk.state c.loop-k.disk) (g.D.SharedDisk.state c.load_undo.new.disk)
    (ap (λ n. n + 1 + c.loop-k.k) c.get.ensures) c.loop-k-test.true c.loop-k.invariant c.in_err-block.ensures.disk)

pub returns-in_err-push-clause-disk : goal.returns-in_err-push-clause-disk
returns-in_err-push-clause-disk g c =
    let p = err_from_is_err_and c.from_residual-in_err-push.result c.from_residual-in_err-push.ensures.1 in
    let read = more c.args.head c.args.seg c.loop-k.k _ c.loop-k.blocks.items c.in_ok-block.block
    (g.D.SharedDisk.state c.args.disk.now) (g.D.SharedDisk.state c.loop-k.disk) (g.D.SharedDisk.state c.load_undo.new.disk)
    (ap (λ n. n + 1 + c.loop-k.k) c.get.ensures) c.loop-k.invariant c.in_ok-block.ensures.faultless c.in_ok-block.ensures.disk in
    rw (p.1, p.2)
    (fails_no_memory (Ring c.args.head) (IsBadUndo c.args.head c.args.seg c.args.count)
    (g.D.SharedDisk.state c.args.disk.now) (g.D.SharedDisk.state c.load_undo.new.disk) read.told read.calm)

pub loop-k-preserved : goal.loop-k-preserved
loop-k-preserved g c =
    subst (λ (xs : List UndoContent). RingRead c.args.head c.args.seg (c.loop-k.k + 1) xs (g.D.SharedDisk.state c.args.disk.now) (g.D.SharedDisk.state c.load_undo.new.disk)) (sym c.in_ok-push.ensures.items)
    (more c.args.head c.args.seg c.loop-k.k _ c.loop-k.blocks.items c.in_ok-block.block
    (g.D.SharedDisk.state c.args.disk.now) (g.D.SharedDisk.state c.loop-k.disk) (g.D.SharedDisk.state c.load_undo.new.disk)
    (ap (λ n. n + 1 + c.loop-k.k) c.get.ensures) c.loop-k.invariant c.in_ok-block.ensures.faultless c.in_ok-block.ensures.disk)

pub returns-clause-count : goal.returns-clause-count
returns-clause-count g c = c.loop-k.invariant.count ∙ omega arith

pub returns-clause-faultless : goal.returns-clause-faultless
returns-clause-faultless g c = c.loop-k.invariant.faultless

pub returns-clause-disk : goal.returns-clause-disk
returns-clause-disk g c =
    all_read (IsBadUndo c.args.head c.args.seg c.args.count) c.loop-k.blocks (λ (blocks : Vec UndoContent Global). blocks.items) c.args.head c.args.seg c.loop-k.k
    (g.D.SharedDisk.state c.args.disk.now) (g.D.SharedDisk.state c.loop-k.disk) c.loop-k.invariant
