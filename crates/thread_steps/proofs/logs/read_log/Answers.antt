use Rattle.std.proofs.Common.{◌≡◌, ◌+◌, ◌-◌, ◌++◌, ◌∙◌, false, length, min, take, drop, ℕ, List, ap, sym, subst}
use Rattle.rac_disk.specs.Content.{log_at}
use Rattle.thread_steps.proofs.LogPieces.{AreFirst, one_piece_more, whole_piece}
use Rattle.thread_steps.proofs.Observing.{observed, observes_more}
use Rattle.thread_steps.proofs.logs.read_log.Goals as goal

pub loop-piece-preserved : goal.loop-piece-preserved
loop-piece-preserved g c =
    let thread = c.args.thread in
    let position = c.args.position in
    let bytes = c.loop-piece.bytes.items in
    let out = c.read_log.new.out in
    let count = c.in_ok-count.count in
    let at = position + c.len.result in
    let as_long = c.read_log.auto.out ∙ ap length c.as_mut_slice.ensures.value in
    let whole = whole_piece out c.loop-piece.piece.items c.loop-piece.piece.len as_long c.loop-piece.piece.ok.0 in
    let here : at ≡ position + length bytes = ap (λ (n : ℕ). position + n) (c.len.ensures ∙ c.loop-piece.bytes.ok.0) in
    let piece : c.as_slice.result.now ≡ out = c.as_slice.ensures.value ∙ whole in
    let more : c.extend_from_slice.new.self.items ≡ bytes ++ take count out =
    subst (λ (p : List ℕ). c.extend_from_slice.new.self.items ≡ bytes ++ take count p) piece c.in_ok-extend_from_slice.ensures.items in
    record {
      room = ap length whole ∙ as_long ∙ c.loop-piece.invariant.room;
      read =
          observes_more false (λ it. AreFirst bytes position (log_at it thread))
          (λ it. (count ≡ min (length (log_at it thread) - at) (length out)) × (take count out ≡ take count (drop at (log_at it thread))))
          (λ it. AreFirst c.extend_from_slice.new.self.items position (log_at it thread)) _ _ _
          (λ it first next. subst (λ (b : List ℕ). AreFirst b position (log_at it thread)) (sym more) (one_piece_more bytes out (log_at it thread) position at count here c.in_ok-count.ensures.within first next.1))
          c.loop-piece.invariant.read
          (observed (λ count it. (count ≡ min (length (log_at it thread) - at) (length out)) × (take count out ≡ take count (drop at (log_at it thread)))) count _ _ c.in_ok-count.ensures.reads);
    }
