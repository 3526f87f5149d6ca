-- Each law is a lemma over plain lists.
use Rattle.std.proofs.Common.{arith}
use Rattle.tg_varint.specs.GroupLaws.{few_bytes, one_byte, same_groups}
use Rattle.tg_varint.proofs.Fronts as fronts
use Rattle.tg_varint.proofs.Computed.{writes, reads}
use Rattle.tg_varint.proofs.Uniqueness.{no_front_of_another, below_limit}
use Rattle.tg_varint.proofs.laws.spelling_laws.Goals as goal

pub returns : goal.returns
returns c = record {
  one_spelling = λ n a b g h. same_groups n a b g h;
  no_front = no_front_of_another;
  below = below_limit;
  one_byte = λ n low. one_byte 9 n (omega arith) low;
  some_front = fronts.some_front;
  one_front = fronts.one_front;
  kept = fronts.kept;
  goes_on = fronts.goes_on;
  at_most = λ n k a some below g. few_bytes n k a some below g;
  computed = writes;
  read = reads;
}
