use Rattle.std.proofs.Common.{vec_len}
use Rattle.std.proofs.lemmas.Result.{err_from_is_err_and}
use Rattle.rac_io.proofs.Known.{takes_more}
use Rattle.rac_io.proofs.read.read_limited.Goals as goal

pub returns-in_err-read_piece-clause-err : goal.returns-in_err-read_piece-clause-err
returns-in_err-read_piece-clause-err g c =
    let p = err_from_is_err_and c.from_residual.result c.from_residual.ensures.1 in
    rw p.1 (takes_more _ _ _ c.loop-source.bytes.items (vec_len c.loop-source.bytes) c.args.limit c.loop-source.bytes.ok.0 c.loop-source.invariant.within c.loop-source.invariant.taken c.in_err-read_piece.ensures.err)
