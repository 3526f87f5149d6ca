-- What is received of a whole CAR, and within the limit.
use Rattle.std.proofs.Common.{◌≡◌, ℕ, ◌+◌, ◌^◌, ◌<◌, ◌≤◌, List, [], ◌∷◌, ◌++◌, length, map, All, refl, ap, sym, subst, ◌∙◌, inl, inr, arith}
use Rattle.std.proofs.lemmas.List.{append-nil, length-append, length_push}
use Rattle.std.proofs.lemmas.List.Elements.{All-map, All-nil}
use Rattle.tg_varint.specs.Computed.{varint}
use Rattle.tg_varint.specs.Laws.{SpellingLaws}
use Rattle.tg_cid.specs.Laws.{LengthLaws}
use Rattle.tg_car.specs.Fronts.{Declares, IsInSection}
use Rattle.tg_car.specs.History.{GoesOn}
use Rattle.tg_car.specs.declared.event.Event.{Event}
use Rattle.tg_car.specs.declared.event.Event.TheVariants as events
use Rattle.tg_car.specs.declared.section.Section.{Section as CarSection}
use Rattle.tg_model.specs.Dag.{Section}
use Rattle.tg_client.specs.Received.{HasReceived, IsCarOf, in_car, out_of_car, sections_given}
use Rattle.tg_client.proofs.Sections.{back_again, placed_sections, placing, among_sections}

-- some section begins behind the last one
nothing_inside : SpellingLaws → LengthLaws → IsInSection []
nothing_inside varints lengths =
    let cid = lengths.one.0 in
    let name = lengths.one.1 in
    let is = lengths.one.2 in
    let some : 0 < length name = lengths.some cid name is in
    let most : length name ≤ 133 = lengths.most cid name is in
    let below : length name + 0 < 2 ^ 63 = omega arith in
    record {
      section = record { cid = cid; block = [] };
      more = varint (length name + 0) ++ (name ++ []);
      not_whole = omega (arith, length-append (varint (length name + 0)) (name ++ []), length-append {A = ℕ} name []);
      text = record {
        size = varint (length name + 0);
        name = name;
        size_is = varints.computed (length name + 0) below;
        name_is = is;
        are_bytes = All-nil (λ (b : ℕ). b < 256);
        whole = refl;
      };
    }

-- of a section none of whose bytes came no block is declared
nothing_declared : (number : ℕ) → Declares [] number → ⊥
nothing_declared number d =
    let size : length d.size ≡ length d.size_is.front + 1 = ap length d.size_is.whole ∙ length_push d.size_is.front d.size_is.last in
    let none : 0 ≡ length (d.size ++ (d.name ++ d.begun)) = ap length d.whole in
    omega (arith, length-append d.size (d.name ++ d.begun))

pub whole : SpellingLaws → LengthLaws → (limit : ℕ) (bytes : List ℕ) (sections : List Section) → IsCarOf bytes sections
    → All (λ section. length section.block ≤ limit) sections → HasReceived limit bytes sections
whole varints lengths limit bytes sections c all =
    let text = c.1 in
    let placed = placing (length text.header) (map in_car sections) text.rest text.sections_are in
    record {
      given = events.Header text.header ∷ placed.0;
      goes_on = inr (
        [],
        record {
          sections = map in_car sections;
          placed = placed.0;
          reaches = record {
            roots = c.0;
            header = text.header;
            done = text.rest;
            whole = text.whole ∙ ap (λ (l : List ℕ). text.header ++ l) (sym (append-nil text.rest));
            header_is = text.header_is;
            sections_are = text.sections_are;
            within = All-map (λ (x : CarSection). length x.block ≤ limit) in_car sections all;
          };
          given_is = refl;
          placed_are = placed.1;
          inside = nothing_inside varints lengths;
          within = λ number d. absurd (nothing_declared number d);
        },
      );
      sections_are = placed_sections (length text.header) (map in_car sections) text.rest placed.0 placed.1 ∙ back_again sections;
    }

given_within : (limit : ℕ) (bytes : List ℕ) (given : List Event) → GoesOn limit bytes given
    → All (λ section. length section.block ≤ limit) (sections_given given)
given_within limit bytes given (inl b) =
    subst (λ (l : List Section). All (λ section. length section.block ≤ limit) l) (sym (ap sections_given b.nothing_given))
    (All-nil (λ (s : Section). length s.block ≤ limit))
given_within limit bytes given (inr a) =
    subst (λ (l : List Section). All (λ section. length section.block ≤ limit) l) (sym (among_sections limit bytes given a.0 a.1)) (All-map (λ (x : Section). length x.block ≤ limit) out_of_car a.1.sections a.1.reaches.within)

-- no block that was received is above the limit
pub within : (limit : ℕ) (bytes : List ℕ) (sections : List Section) → HasReceived limit bytes sections
    → All (λ section. length section.block ≤ limit) sections
within limit bytes sections a =
    subst (λ (l : List Section). All (λ section. length section.block ≤ limit) l) a.sections_are (given_within limit bytes a.given a.goes_on)
