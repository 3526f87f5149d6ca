use Rattle.std.proofs.Common.{◌≡◌, ◌≤◌, ◌++◌, ◌∷◌, [], ℕ, List, length, drop, nat_eq, sym, ap, ◌∙◌, arith}
use Rattle.std.proofs.Math.Bool.{and-true}
use Rattle.std.proofs.lemmas.List.{drop_all}
use Rattle.std.specs.Int.{w64, to_be_bytes}
use Rattle.std.specs.Prelude.{slice_index}
use Rattle.tg_murmur.specs.NameHash.{name_hash, slot_of}
use Rattle.tg_model.specs.Sound.{has_slots}
use Rattle.tg_model.proofs.shards.has_slots.Goals as goal

-- the byte of the name's hash at a level is the name's slot there
slot_there : (name : List ℕ) (hash level at slot : ℕ) → hash ≡ name_hash name → at ≡ level → slot ≡ slice_index (to_be_bytes w64 hash) at → slot ≡ slot_of name level
slot_there name hash level at slot hash_is at_is slot_is =
    slot_is ∙ ap (λ (h : ℕ). slice_index (to_be_bytes w64 h) at) hash_is ∙ ap (slice_index (to_be_bytes w64 (name_hash name))) at_is

pub returns : goal.returns
returns c =
    let name = c.args.name.now in
    let past : length c.args.above.now ≤ c.loop-level.level = omega arith in
    let none : drop c.loop-level.level c.args.above.now ≡ [] = drop_all c.loop-level.level c.args.above.now past in
    let at_is : length c.args.above.now ≡ c.loop-level.level = omega arith in
    let here : c.slot-2.result ≡ slot_of name c.loop-level.level =
    slot_there name c.hash64-hash.result c.loop-level.level (length c.args.above.now) c.slot-2.result c.hash64-hash.ensures at_is c.slot-2.ensures in
    sym (c.loop-level.invariant ∙ ap (λ (rest : List ℕ). has_slots name c.loop-level.level (rest ++ c.args.last ∷ [])) none
    ∙ and-true (nat_eq (slot_of name c.loop-level.level) c.args.last) ∙ ap (λ (slot : ℕ). nat_eq slot c.args.last) (sym here))
