use Rattle.tg_dagpb.specs.Cursor.{IsCursor}
use Rattle.tg_codec_rows.proofs.nodes.walks.Given as goal

abbrev pub invariant-loop-link : goal.invariant-loop-link
invariant-loop-link l = IsCursor l.block l.at
