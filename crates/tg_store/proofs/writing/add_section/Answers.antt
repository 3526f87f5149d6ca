use Rattle.std.proofs.Common.{rules, ◌≡◌, ◌<◌, ◌+◌, ◌∷◌, [], ◌++◌, ℕ, List, length, take, refl, ap, ◌∙◌, arith}
use Rattle.std.proofs.lemmas.List.{length-take-le}
use Rattle.std.proofs.lemmas.List.Elements.{All-from_get_or}
use Rattle.tg_store.specs.declared.key.Key.{Key}
use Rattle.tg_store.specs.declared.place.Place.{Place}
use Rattle.tg_store.proofs.writing.add_section.Goals as goal

pub returns : goal.returns
returns g c =
    let are = All-from_get_or (λ (b : ℕ). b < 256) c.args.block.now 0 (λ k h. search (rules, c.type_inv.block k)) in
    let head : List ℕ = take c.section_head-size.result.1 c.section_head-size.result.0 in
    let long : length head ≡ c.section_head-size.result.1 = length-take-le c.section_head-size.result.1 c.section_head-size.result.0 (omega arith) in
    let offset : c.in-Some.offset ≡ c.args.end.now + length head = omega arith in
    let both = c.in-Ok-append_both.ensures {u = tt} in
    record {
      head = head;
      text = c.section_head-size.ensures.head c.args.block.now refl are;
      appended = both.0;
      quiet = both.1;
      places = c.add_place.ensures
          ∙ (ap (λ (l : List (Key × Place)). l ++ (c.args.key, (let p : Place = record { offset = c.in-Some.offset; size = length c.args.block.now } in p)) ∷ []) c.in-Ok.ensures.entries
          ∙ ap (λ (n : ℕ). c.args.places.now.entries ++ (c.args.key, (let p : Place = record { offset = n; size = length c.args.block.now } in p)) ∷ []) offset);
      end = omega arith;
      fits = omega arith;
    }
