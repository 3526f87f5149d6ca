-- What was pushed, one behind another.
use Rattle.std.proofs.Common.{◌≡◌, ℕ, List, [], ◌∷◌, ◌++◌, length, take, ap, ◌∙◌, subst, arith}
use Rattle.std.proofs.lemmas.List.{length-take-le}
use Rattle.tg_cid.specs.Cid.{CidParts}
use Rattle.tg_cid.specs.Spelling.{CidBytes}
use Rattle.tg_car.specs.CarText.{string_head}
use Rattle.tg_car.specs.HeaderState.{map_back}
use Rattle.tg_car.proofs.Written.{one_header}
use Rattle.tg_car.proofs.writing.header.Goals as goal

pub returns : goal.returns
returns c =
    let front : List ℕ = 0xa2 ∷ 0x65 ∷ 114 ∷ 111 ∷ 111 ∷ 116 ∷ 115 ∷ 0x81 ∷ 0xd8 ∷ 0x2a ∷ [] in
    let name = take c.spelling-size.result.1 c.spelling-size.result.0 in
    let head = take c.string_head-head_size.result.1 c.string_head-head_size.result.0 in
    let size = take c.write-number_size.result.1 c.write-number_size.result.0 in
    let root : CidParts = record c.args.root.now { version = 1 } in
    let is : CidBytes root name = subst (λ (p : CidParts). CidBytes p name) c.to_v1-one.ensures c.spelling-size.ensures.spelled in
    let long : length name ≡ c.spelling-size.result.1 = length-take-le c.spelling-size.result.1 c.spelling-size.result.0 (omega arith) in
    let head_long : length head ≡ c.string_head-head_size.result.1 =
    length-take-le c.string_head-head_size.result.1 c.string_head-head_size.result.0 (omega arith) in
    let first = c.in_ok-bytes.ensures in
    let second = c.in_ok-push_all.ensures.ok in
    let third = c.in_ok-push_all-2.ensures.ok in
    let fourth = c.in_ok-push_all-3.ensures.ok in
    let fifth = c.in_ok-push_all-4.ensures.ok in
    let last = c.in_ok-push_all-5.ensures.ok in
    one_header c.length_laws.ensures c.args.root.now name head size c.push_all-5.new.self _ c.write-number_size.ensures.spelling is (omega arith) (omega arith)
    (c.string_head-head_size.ensures.head ∙ ap string_head (omega arith))
    (last ∙ ap (λ (l : List ℕ). l ++ map_back) (fifth ∙ ap (λ (l : List ℕ). l ++ name) (fourth ∙ ap (λ (l : List ℕ). l ++ 0 ∷ [])
    (third ∙ ap (λ (l : List ℕ). l ++ head) (second ∙ ap (λ (l : List ℕ). l ++ front) first)))))
