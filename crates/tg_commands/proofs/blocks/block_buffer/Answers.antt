use Rattle.std.proofs.Common.{◌≡◌, ◌+◌, ◌∙◌, length}
use Rattle.std.proofs.lemmas.Result.{IfOk-weaker}
use Rattle.std.specs.Prelude.{vec_len}
use Rattle.tg_cid.specs.Limits.{max_block_len}
use Rattle.tg_commands.proofs.blocks.block_buffer.Goals as goal

pub returns : goal.returns
returns c = IfOk-weaker c.zeros.result (λ room. length room.items ≡ max_block_len + 1) (λ room. vec_len room ≡ max_block_len + 1) (λ room e. room.ok.0 ∙ e) c.zeros.ensures.size
