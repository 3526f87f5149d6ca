use Rattle.std.proofs.Common.{refl}
use Rattle.tg_murmur.specs.NameHash.{final_mix, finished, name_hash, next_h1, next_h2, scrambled1, scrambled2, with_rest}
use Rattle.tg_oracle.proofs.small_dags.small_shards.Goals as goal

pub returns-clause-one_stands : goal.returns-clause-one_stands
unfolding final_mix finished name_hash next_h1 next_h2 scrambled1 scrambled2 with_rest
returns-clause-one_stands c = refl

pub returns-clause-one_elsewhere : goal.returns-clause-one_elsewhere
unfolding final_mix finished name_hash next_h1 next_h2 scrambled1 scrambled2 with_rest
returns-clause-one_elsewhere c = refl

pub returns-clause-inner_stands : goal.returns-clause-inner_stands
unfolding final_mix finished name_hash next_h1 next_h2 scrambled1 scrambled2 with_rest
returns-clause-inner_stands c = refl

pub returns-clause-hello : goal.returns-clause-hello
unfolding final_mix finished name_hash next_h1 next_h2 scrambled1 scrambled2 with_rest
returns-clause-hello c = refl

pub returns-clause-absent : goal.returns-clause-absent
unfolding final_mix finished name_hash next_h1 next_h2 scrambled1 scrambled2 with_rest
returns-clause-absent c = refl

pub returns-clause-behind : goal.returns-clause-behind
unfolding final_mix finished name_hash next_h1 next_h2 scrambled1 scrambled2 with_rest
returns-clause-behind c = refl

pub returns-clause-inside : goal.returns-clause-inside
unfolding final_mix finished name_hash next_h1 next_h2 scrambled1 scrambled2 with_rest
returns-clause-inside c = refl

pub returns-clause-same_slot : goal.returns-clause-same_slot
unfolding final_mix finished name_hash next_h1 next_h2 scrambled1 scrambled2 with_rest
returns-clause-same_slot c = refl

pub returns-clause-unused : goal.returns-clause-unused
unfolding final_mix finished name_hash next_h1 next_h2 scrambled1 scrambled2 with_rest
returns-clause-unused c = refl

pub returns-clause-gone : goal.returns-clause-gone
unfolding final_mix finished name_hash next_h1 next_h2 scrambled1 scrambled2 with_rest
returns-clause-gone c = refl

pub returns-clause-entity : goal.returns-clause-entity
unfolding final_mix finished name_hash next_h1 next_h2 scrambled1 scrambled2 with_rest
returns-clause-entity c = refl

pub returns-clause-part_elsewhere : goal.returns-clause-part_elsewhere
unfolding final_mix finished name_hash next_h1 next_h2 scrambled1 scrambled2 with_rest
returns-clause-part_elsewhere c = refl

pub returns-clause-part_stands : goal.returns-clause-part_stands
unfolding final_mix finished name_hash next_h1 next_h2 scrambled1 scrambled2 with_rest
returns-clause-part_stands c = refl
