-- Both stand in the front of the array.
use Rattle.std.proofs.Common.{◌≡◌, ℕ, ◌+◌, ◌-◌, ◌≤◌, List, ◌++◌, length, take, drop, replicate, sym, ap, ◌∙◌, subst, arith}
use Rattle.std.proofs.lemmas.List.{length-take-le, drop-replicate}
use Rattle.tg_varint.specs.Varint.{VarintSpelling}
use Rattle.tg_car.proofs.Written.{before_block, front_of_room}
use Rattle.tg_car.proofs.writing.section_head.Goals as goal

filled : (number name room : List ℕ) (n m : ℕ) → n ≤ length number → m ≤ length name
    → room ≡ take n number ++ (take m name ++ drop (length (take n number) + length (take m name)) (replicate 142 0))
    → (length (take m name) ≡ m) × (take (n + m) room ≡ take n number ++ take m name) × (drop (n + m) room ≡ replicate (142 - (n + m)) 0)
filled number name room n m low high e =
    let a : length (take n number) ≡ n = length-take-le n number low in
    let b : length (take m name) ≡ m = length-take-le m name high in
    let both : n + m ≡ length (take n number) + length (take m name) = omega arith in
    let parts = front_of_room (take n number) (take m name) (drop (length (take n number) + length (take m name)) (replicate 142 0)) room (n + m) e both in
    (b, parts.0, parts.1 ∙ (ap (λ k. drop k (replicate 142 0)) (sym both) ∙ drop-replicate (n + m) 142 0))

pub returns-clause-head : goal.returns-clause-head
returns-clause-head c = λ block long are_bytes.
    let n = c.write-number_size.result.1 in
    let m = c.spelling-name_size.result.1 in
    let number = c.write-number_size.result.0 in
    let name = c.spelling-name_size.result.0 in
    let f = filled number name c.fill_both.new.room n m (omega arith) (omega arith) c.fill_both.ensures in
    before_block c.args.cid.now block (take n number) (take m name) (take (n + m) c.fill_both.new.room) c.args.size long are_bytes
    (subst (λ k. VarintSpelling (k + c.args.size) (take n number)) (sym f.0) c.write-number_size.ensures.spelling)
    c.spelling-name_size.ensures.spelled f.1

pub returns-clause-rest : goal.returns-clause-rest
returns-clause-rest c =
    let n = c.write-number_size.result.1 in
    let m = c.spelling-name_size.result.1 in
    let f = filled c.write-number_size.result.0 c.spelling-name_size.result.0 c.fill_both.new.room n m (omega arith) (omega arith) c.fill_both.ensures in
    f.2
