use Rattle.std.proofs.Common.{◌==◌, ap, ◌∙◌}
use Rattle.std.proofs.lemmas.Nat.Bits.{shr_and_one}
use Rattle.tg_model.proofs.BitLemmas.{bit_of_byte}
use Rattle.tg_model.proofs.folders.is_used.Goals as goal

pub returns : goal.returns
returns c =
    ap (λ n. n == 1) (shr_and_one _ c.args.bit ∙ bit_of_byte c.args.bits.now (λ k. (c.type_inv.bits k).fits) c.args.index c.args.bit c.requires.index c.requires.bit)
