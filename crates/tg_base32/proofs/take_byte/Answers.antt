use Rattle.std.proofs.Common.{◌≡◌, arith}
use Rattle.std.proofs.lemmas.Result.{IfOk-weaker}
use Rattle.tg_base32.proofs.Writing.{takes_in, two_moves}
use Rattle.tg_base32.proofs.take_byte.Goals as goal

pub push_letter-requires : goal.push_letter-requires
push_letter-requires c = takes_in c.args.held c.from.result c.requires (omega arith)

pub returns : goal.returns
returns c =
    let x : c.from.result ≡ c.args.byte = omega arith in
    IfOk-weaker c.push_letter-2.result _ _
    (λ rest h. two_moves c.args.text.now.items c.push_letter.new.text.items c.push_letter-2.new.text.items c.args.held c.in_ok-held.held rest c.args.byte c.requires (omega arith) (rw (← x) c.in_ok-held.ensures) h)
    c.push_letter-2.ensures
