-- One call of a reader, and the histories that it stands for.
use Rattle.std.proofs.Common.{◌≡◌, ℕ, ◌+◌, ◌-◌, ◌^◌, ◌<◌, ◌≤◌, ◌⊎◌, Bool, true, false, Option, Some, None, List, [], ◌∷◌, ◌++◌, length, take, min, refl, ap, sym, ◌∙◌, subst, inl, inr, arith}
use Rattle.std.proofs.lemmas.List.{append_assoc, append-nil, length-append, length-take-le, take_all, nil_from_length}
use Rattle.std.proofs.lemmas.List.Elements.{All-nil, All-push}
use Rattle.tg_car.specs.TextLaws.{TextLaws}
use Rattle.tg_car.specs.declared.section.Section.{Section}
use Rattle.tg_car.specs.declared.head.Declared.{Declared}
use Rattle.tg_car.specs.declared.event.Event.{Event}
use Rattle.tg_car.specs.declared.event.Event.TheVariants as events
use Rattle.tg_car.specs.declared.fault.CarFault.{CarFault}
use Rattle.tg_car.specs.declared.fault.CarFault.TheVariants as faults
use Rattle.tg_car.specs.declared.header_state.HeaderState.{HeaderState}
use Rattle.tg_car.specs.CarText.{IsRoot, HeaderText, header_map}
use Rattle.tg_car.specs.Fronts.{IsInHeader, IsInSection, IsWithin, Reaches}
use Rattle.tg_car.specs.Faults.{shown, HasEndCause}
use Rattle.tg_car.specs.Filling.{Takes, BreaksHead, Completes}
use Rattle.tg_car.specs.HeaderState.{FollowsHeader}
use Rattle.tg_car.specs.History.{History, Stop, at_piece, at_end, IsBeforeSections, IsAmongSections, GoesOn, IsExact, HasStopped, IsGivenOf, nothing, given_by, stopped}
use Rattle.tg_car.specs.State.{ReaderState, Holds, HoldsHeader, HoldsSection, StandsFor, fault_of}
use Rattle.tg_car.specs.Steps.{Steps, Stops, StopsHeader, IsTaken, IsHeaderSoFar}
use Rattle.tg_car.proofs.Openings.{nothing_in_head}
use Rattle.tg_car.proofs.Parts.{head_inside, head_within, head_before, Last, before_last}
use Rattle.tg_car.proofs.Sections.{push_section, push_placed, section_long}
use Rattle.tg_car.proofs.Divisions.{no_car_in_header, no_car_in_section, none_in_header}

as_header : (old : ReaderState) (fed : List ℕ) (given : List Event) → old.in_header ≡ true → Holds old.in_header old fed given → HoldsHeader old fed given
as_header old fed given e k = subst (λ (b : Bool). Holds b old fed given) e k

as_section : (old : ReaderState) (fed : List ℕ) (given : List Event) → old.in_header ≡ false → Holds old.in_header old fed given
    → HoldsSection old fed given
as_section old fed given e k = subst (λ (b : Bool). Holds b old fed given) e k

taken_length : (fed piece : List ℕ) (taken : ℕ) → taken ≤ length piece → length (fed ++ take taken piece) ≡ length fed + taken
taken_length fed piece taken less = length-append fed (take taken piece) ∙ ap (λ (n : ℕ). length fed + n) (length-take-le taken piece less)

further : (place new length taken : ℕ) → place ≡ shown length → new ≡ min (place + taken) (2 ^ 64 - 1) → new ≡ shown (length + taken)
further place new length taken e f = omega arith

-- nothing is given where nothing is completed
none_given : (given : List Event) → given ≡ given ++ []
none_given given = sym (append-nil given)

-- the header is whole, and the first section is at hand
header_whole : TextLaws → (limit : ℕ) (roots : List (List ℕ)) (fed came : List ℕ) → HeaderText roots fed → came ≡ []
    → IsAmongSections limit fed (events.Header fed ∷ []) came
header_whole laws limit roots fed came text none = record {
  sections = [];
  placed = [];
  reaches = record {
    roots = roots;
    header = fed;
    done = [];
    whole = sym (append-nil fed) ∙ ap (λ (l : List ℕ). fed ++ l) (sym none);
    header_is = text;
    sections_are = refl;
    within = All-nil (λ (s : Section). length s.block ≤ limit);
  };
  given_is = refl;
  placed_are = (refl, refl);
  inside = head_inside came (nothing_in_head laws came none);
  within = head_within laws limit came (nothing_in_head laws came none);
}

abbrev Follows : ReaderState → List ℕ → HeaderState → ℕ → Bool → Type 0
Follows old piece state taken whole = (bytes : List ℕ) → FollowsHeader old.header bytes → IsInHeader bytes
    → FollowsHeader state (bytes ++ take taken piece) × IsHeaderSoFar whole (bytes ++ take taken piece)

pub header_done : TextLaws → (old new : ReaderState) (piece text : List ℕ) (taken : ℕ) (state : HeaderState) (whole : Bool) → new.limit ≡ old.limit
    → new.refused ≡ old.refused → old.in_header ≡ true → new.in_header ≡ false → new.came ≡ old.came
    → text ≡ old.text ++ take taken piece → new.place ≡ min (old.place + taken) (2 ^ 64 - 1) → whole ≡ true → IsTaken whole piece taken
    → Follows old piece state taken whole → Steps old new piece taken (events.Header text)
header_done laws old new piece text taken state whole limit refused was is came text_is place w t f =
    let took : IsTaken true piece taken = subst (λ (b : Bool). IsTaken b piece taken) w t in
    record {
      within = took.1;
      moves = λ _. took.0;
      need = λ e. absurd cc;
      at_end = came;
      limit = limit;
      refused = refused;
      holds = λ fed given k.
          let o = as_header old fed given was k in
          let all = fed ++ take taken piece in
          let next = f fed o.follows o.before.inside in
          let header : IsHeaderSoFar true all = subst (λ (b : Bool). IsHeaderSoFar b all) w next.1 in
          let none : new.came ≡ [] = came ∙ o.none_came in
          let zero : length new.came ≡ 0 = ap length none in
          let same : text ≡ all = text_is ∙ ap (λ (l : List ℕ). l ++ take taken piece) o.text_is in
          let gave : given ++ events.Header text ∷ [] ≡ events.Header all ∷ [] =
          ap (λ (l : List Event). l ++ events.Header text ∷ []) o.before.nothing_given ∙ ap (λ (l : List ℕ). events.Header l ∷ []) same in
          let long : length all ≡ length fed + taken = taken_length fed piece taken took.1 in
          let placed : new.place ≡ shown (length fed + taken) = further old.place new.place (length fed) taken o.place_is place in
          subst (λ (b : Bool). Holds b new all (given ++ events.Header text ∷ [])) (sym is) (record {
            among = subst (λ (g : List Event). IsAmongSections new.limit all g new.came) (sym gave)
                (header_whole laws new.limit header.0 all new.came header.1 none);
            place_is = placed ∙ ap shown (omega arith);
          });
    }

pub header_more : (old new : ReaderState) (piece : List ℕ) (taken : ℕ) (whole : Bool) → new.limit ≡ old.limit
    → new.refused ≡ old.refused → old.in_header ≡ true → new.in_header ≡ true → new.came ≡ old.came
    → new.text ≡ old.text ++ take taken piece → new.place ≡ min (old.place + taken) (2 ^ 64 - 1) → whole ≡ false → IsTaken whole piece taken
    → Follows old piece new.header taken whole → Steps old new piece taken events.Need
header_more old new piece taken whole limit refused was is came text place w t f =
    let took : taken ≡ length piece = subst (λ (b : Bool). IsTaken b piece taken) w t in
    record {
      within = omega arith;
      moves = λ some. omega arith;
      need = λ e. took;
      at_end = tt;
      limit = limit;
      refused = refused;
      holds = λ fed given k.
          let o = as_header old fed given was k in
          let all = fed ++ take taken piece in
          let next = f fed o.follows o.before.inside in
          let inside : IsHeaderSoFar false all = subst (λ (b : Bool). IsHeaderSoFar b all) w next.1 in
          subst (λ (b : Bool). Holds b new all (given ++ [])) (sym is) (record {
            before = record { nothing_given = append-nil given ∙ o.before.nothing_given; inside = inside };
            follows = next.0;
            text_is = text ∙ ap (λ (l : List ℕ). l ++ take taken piece) o.text_is;
            none_came = came ∙ o.none_came;
            place_is = further old.place new.place (length fed) taken o.place_is place
                ∙ ap shown (sym (taken_length fed piece taken (omega arith)));
          });
    }

pub header_bad : TextLaws → (old : ReaderState) (piece : List ℕ) → old.in_header ≡ true
    → ((bytes : List ℕ) → FollowsHeader old.header bytes → IsInHeader bytes → StopsHeader bytes piece) → Stops old old piece (faults.BadHeader 0)
header_bad laws old piece was f = record {
  limit = refl;
  stops = λ fed given k.
      let o = as_header old fed given was k in
      let b = f fed o.follows o.before.inside in
      let before = fed ++ b.front in
      record {
        front = b.front;
        last = b.last;
        more = b.more;
        whole = b.whole;
        went_on = inl (record { nothing_given = o.before.nothing_given; inside = b.went_on });
        brings = (
          refl,
          record {
            before = before;
            last = b.last;
            whole = refl;
            went_on = b.went_on;
            hopeless = no_car_in_header laws before b.last b.went_on b.none;
          },
        );
        looked_at = λ e inside. absurd cc;
      };
}

-- bytes of a header begin one without the last of them too
header_before : (whole : Bool) (bytes : List ℕ) (last : ℕ) → IsHeaderSoFar whole (bytes ++ last ∷ []) → IsInHeader bytes
header_before true bytes last h = record { roots = h.0; more = last ∷ []; not_whole = omega arith; text = h.1 }
header_before false bytes last h = record {
  roots = h.roots;
  more = last ∷ h.more;
  not_whole = omega arith;
  text = subst (HeaderText h.roots) (append_assoc bytes (last ∷ []) h.more) h.text;
}

header_takes : (whole : Bool) (bytes : List ℕ) → IsHeaderSoFar whole bytes → IsInHeader bytes ⊎ ((roots : List (List ℕ)) × HeaderText roots bytes)
header_takes true bytes h = inr h
header_takes false bytes h = inl h

pub taken_within : (whole : Bool) (piece : List ℕ) (taken : ℕ) → IsTaken whole piece taken → taken ≤ length piece
taken_within true piece taken t = t.1
taken_within false piece taken t = omega arith

-- where the header isn't whole, all of the piece is taken
nothing_behind : TextLaws → (whole : Bool) (fed piece : List ℕ) (taken : ℕ) → (l : Last fed piece taken) → IsTaken whole piece taken
    → IsHeaderSoFar whole ((fed ++ l.front) ++ l.last ∷ []) → IsInHeader ((fed ++ l.front) ++ l.last ∷ []) → l.more ≡ []
nothing_behind laws true fed piece taken l t h inside =
    let bytes = (fed ++ l.front) ++ l.last ∷ [] in
    absurd (none_in_header laws h.0 bytes [] bytes h.1 (append-nil bytes) inside)
nothing_behind laws false fed piece taken l t h inside =
    let all : length piece ≡ length (l.front ++ l.last ∷ l.more) = ap length l.whole in
    let front : length l.front + 1 ≡ taken = l.front_long in
    nil_from_length l.more (omega (arith, length-append l.front (l.last ∷ l.more)))

pub header_memory : TextLaws → (old new : ReaderState) (piece : List ℕ) (taken : ℕ) (state : HeaderState) (whole : Bool) → new.limit ≡ old.limit
    → old.in_header ≡ true → 0 < taken → IsTaken whole piece taken → Follows old piece state taken whole → Stops old new piece faults.OutOfMemory
header_memory laws old new piece taken state whole limit was some took f = record {
  limit = limit;
  stops = λ fed given k.
      let o = as_header old fed given was k in
      let last = before_last fed piece taken some (taken_within whole piece taken took) in
      let so_far : IsHeaderSoFar whole ((fed ++ last.front) ++ last.last ∷ []) =
      subst (IsHeaderSoFar whole) last.taken_is (f fed o.follows o.before.inside).1 in
      record {
        front = last.front;
        last = last.last;
        more = last.more;
        whole = last.whole;
        went_on = inl (record {
          nothing_given = o.before.nothing_given;
          inside = header_before whole (fed ++ last.front) last.last so_far;
        });
        brings = elim (header_takes whole ((fed ++ last.front) ++ last.last ∷ []) so_far) [ inl i ↦ inl i | inr h ↦ inr (inl h) ];
        looked_at = λ e inside. nothing_behind laws whole fed piece taken last took so_far inside;
      };
}

reaches_more : (limit : ℕ) (bytes : List ℕ) (ss : List Section) (rest more : List ℕ) → Reaches limit bytes ss rest → Reaches limit (bytes ++ more) ss (rest ++ more)
reaches_more limit bytes ss rest more r = record {
  roots = r.roots;
  header = r.header;
  done = r.done;
  whole = ap (λ (l : List ℕ). l ++ more) r.whole
      ∙ (append_assoc r.header (r.done ++ rest) more ∙ ap (λ (l : List ℕ). r.header ++ l) (append_assoc r.done rest more));
  header_is = r.header_is;
  sections_are = r.sections_are;
  within = r.within;
}

-- more bytes of the section at hand
among_more : (limit : ℕ) (fed : List ℕ) (given : List Event) (rest more : List ℕ) → IsAmongSections limit fed given rest
    → IsInSection (rest ++ more) → IsWithin limit (rest ++ more) → IsAmongSections limit (fed ++ more) given (rest ++ more)
unfolding reaches_more
among_more limit fed given rest more a inside within = record {
  sections = a.sections;
  placed = a.placed;
  reaches = reaches_more limit fed a.sections rest more a.reaches;
  given_is = a.given_is;
  placed_are = a.placed_are;
  inside = inside;
  within = within;
}

reached_length : (limit : ℕ) (bytes : List ℕ) (ss : List Section) (rest : List ℕ) → (r : Reaches limit bytes ss rest)
    → length bytes ≡ length r.header + (length r.done + length rest)
reached_length limit bytes ss rest r =
    let whole : length bytes ≡ length (r.header ++ (r.done ++ rest)) = ap length r.whole in
    omega (arith, length-append r.header (r.done ++ rest), length-append r.done rest)

at_limit : (old new : ReaderState) (fed : List ℕ) (given : List Event) → new.limit ≡ old.limit → IsAmongSections old.limit fed given new.came
    → IsAmongSections new.limit fed given new.came
at_limit old new fed given e a = subst (λ (n : ℕ). IsAmongSections n fed given new.came) (sym e) a

pub section_more : (old new : ReaderState) (piece : List ℕ) (taken : ℕ) → new.limit ≡ old.limit → new.refused ≡ old.refused → old.in_header ≡ false
    → new.in_header ≡ false → new.place ≡ old.place → Takes old.limit old.came new.came piece taken None → Steps old new piece taken events.Need
section_more old new piece taken limit refused was is place t =
    let took : taken ≡ length piece = t.0 in
    record {
      within = omega arith;
      moves = λ some. omega arith;
      need = λ e. took;
      at_end = tt;
      limit = limit;
      refused = refused;
      holds = λ fed given k.
          let o = as_section old fed given was k in
          let front = take taken piece in
          let all : front ≡ piece = take_all taken piece (omega arith) in
          let came : new.came ≡ old.came ++ front = t.1 ∙ ap (λ (l : List ℕ). old.came ++ l) (sym all) in
          let new_length : length new.came ≡ length old.came + length piece = ap length t.1 ∙ length-append old.came piece in
          let long : length (fed ++ front) ≡ length fed + taken = taken_length fed piece taken (omega arith) in
          let same : length fed - length old.came ≡ length (fed ++ front) - length new.came = omega arith in
          let among : IsAmongSections old.limit (fed ++ front) given (old.came ++ front) =
          among_more old.limit fed given old.came front o.among (subst IsInSection came t.2)
          (subst (IsWithin old.limit) came (t.3 o.among.within)) in
          subst (λ (b : Bool). Holds b new (fed ++ front) (given ++ [])) (sym is) (record {
            among = at_limit old new (fed ++ front) (given ++ []) limit (
                subst (λ (g : List Event). IsAmongSections old.limit (fed ++ front) g new.came) (none_given given)
                (subst (IsAmongSections old.limit (fed ++ front) given) (sym came) among));
            place_is = place ∙ (o.place_is ∙ ap shown same);
          });
    }

past_all : (place came size taken new fed rest : ℕ) → place ≡ shown (fed - rest) → rest ≤ fed → came ≡ shown rest
    → size ≡ min (came + taken) (2 ^ 64 - 1) → new ≡ min (place + size) (2 ^ 64 - 1) → new ≡ shown (fed + taken)
past_all place came size taken new fed rest p less q r s = omega arith

size_all : (came size taken rest : ℕ) → came ≡ shown rest → size ≡ min (came + taken) (2 ^ 64 - 1) → rest + taken < 2 ^ 63 + 9 → size ≡ rest + taken
size_all came size taken rest q r less = omega arith

pub section_done : TextLaws → (old new : ReaderState) (piece : List ℕ) (taken came size : ℕ) (section : Section) → new.limit ≡ old.limit → new.refused ≡ old.refused
    → old.in_header ≡ false → new.in_header ≡ false → came ≡ shown (length old.came) → size ≡ min (came + taken) (2 ^ 64 - 1)
    → new.place ≡ min (old.place + size) (2 ^ 64 - 1)
    → Takes old.limit old.came new.came piece taken (Some section) → Steps old new piece taken (events.Section old.place size section)
unfolding reaches_more
section_done laws old new piece taken came size section limit refused was is came_is size_is place t = record {
  within = t.0;
  moves = t.1;
  need = λ e. absurd cc;
  at_end = t.2;
  limit = limit;
  refused = refused;
  holds = λ fed given k.
      let o = as_section old fed given was k in
      let front = take taken piece in
      let r = o.among.reaches in
      let event : Event = events.Section old.place size section in
      let none : new.came ≡ [] = t.2 in
      let zero : length new.came ≡ 0 = ap length none in
      let whole : fed ++ front ≡ r.header ++ ((r.done ++ (old.came ++ front)) ++ new.came) =
      (reaches_more old.limit fed o.among.sections old.came front r).whole
      ∙ ap (λ (l : List ℕ). r.header ++ l) (sym (append-nil (r.done ++ (old.came ++ front))) ∙ ap (λ (l : List ℕ). (r.done ++ (old.came ++ front)) ++ l) (sym none)) in
      let long : length (fed ++ front) ≡ length fed + taken = taken_length fed piece taken t.0 in
      let came_long : length (old.came ++ front) ≡ length old.came + taken = taken_length old.came piece taken t.0 in
      let reached : length fed ≡ length r.header + (length r.done + length old.came) = reached_length old.limit fed o.among.sections old.came r in
      let placed : new.place ≡ shown (length fed + taken) =
      past_all old.place came size taken new.place (length fed) (length old.came) o.place_is (omega arith) came_is size_is place in
      let at : old.place ≡ shown (length r.header + length r.done) = o.place_is ∙ ap shown (omega arith) in
      let few : length (old.came ++ front) < 2 ^ 63 + 9 = section_long laws section (old.came ++ front) t.3 in
      let bytes : size ≡ length (old.came ++ front) = size_all came size taken (length old.came) came_is size_is (omega arith) ∙ sym came_long in
      subst (λ (b : Bool). Holds b new (fed ++ front) (given ++ event ∷ [])) (sym is) (record {
        among = at_limit old new (fed ++ front) (given ++ event ∷ []) limit (record {
          sections = o.among.sections ++ section ∷ [];
          placed = o.among.placed ++ event ∷ [];
          reaches = record {
            roots = r.roots;
            header = r.header;
            done = r.done ++ (old.came ++ front);
            whole = whole;
            header_is = r.header_is;
            sections_are = push_section o.among.sections section r.done (old.came ++ front) r.sections_are t.3;
            within = All-push (λ (s : Section). length s.block ≤ old.limit) o.among.sections section r.within (t.4 o.among.within);
          };
          given_is = ap (λ (l : List Event). l ++ event ∷ []) o.among.given_is;
          placed_are = push_placed (length r.header) o.among.sections section r.done (old.came ++ front) o.among.placed old.place size
              o.among.placed_are t.3 at bytes;
          inside = head_inside new.came (nothing_in_head laws new.came none);
          within = head_within laws old.limit new.came (nothing_in_head laws new.came none);
        });
        place_is = placed ∙ ap shown (omega arith);
      });
}

pub section_bad : TextLaws → (old new : ReaderState) (piece : List ℕ) (at : ℕ) → new.limit ≡ old.limit → old.in_header ≡ false
    → at ≡ old.place → BreaksHead old.came piece → Stops old new piece (faults.BadSection at)
section_bad laws old new piece at limit was at_is b = record {
  limit = limit;
  stops = λ fed given k.
      let o = as_section old fed given was k in
      let before = fed ++ b.front in
      let rest = old.came ++ b.front in
      let inside : IsInSection rest = head_inside rest b.went_on in
      let within : IsWithin old.limit rest = head_within laws old.limit rest b.went_on in
      let among : IsAmongSections old.limit before given rest = among_more old.limit fed given old.came b.front o.among inside within in
      record {
        front = b.front;
        last = b.last;
        more = b.more;
        whole = b.whole;
        went_on = inr (rest, among);
        brings = (
          length fed - length old.came,
          at_is ∙ o.place_is,
          record {
            before = before;
            last = b.last;
            whole = refl;
            sections = among.sections;
            rest = rest;
            reaches = among.reaches;
            went_on = inside;
            within = within;
            at_is = omega (arith, length-append fed b.front, length-append old.came b.front);
            hopeless = no_car_in_section laws old.limit before among.sections rest b.last among.reaches b.went_on b.none;
          },
        );
        looked_at = λ e inside. absurd cc;
      };
}

-- the last byte of a length and CID comes with a piece: what is reached then
record Reached (old : ReaderState) (fed : List ℕ) (given : List Event) (piece : List ℕ) (d : Declared) (c : Completes old.came piece d) : Type 0 where
  went_on : GoesOn old.limit (fed ++ c.front) given
  sections : List Section
  reaches : Reaches old.limit ((fed ++ c.front) ++ c.last ∷ []) sections (c.text.size ++ c.text.name)
  at_is : length fed - length old.came ≡ length ((fed ++ c.front) ++ c.last ∷ []) - length (c.text.size ++ c.text.name)

at_last_byte : TextLaws → (old : ReaderState) (fed : List ℕ) (given : List Event) (piece : List ℕ) (d : Declared) (c : Completes old.came piece d)
    → HoldsSection old fed given → Reached old fed given piece d c
at_last_byte laws old fed given piece d c o =
    let inside = head_before d (old.came ++ c.front) c.last c.text in
    let among = among_more old.limit fed given old.came c.front o.among (head_inside (old.came ++ c.front) inside)
    (head_within laws old.limit (old.came ++ c.front) inside) in
    let reaches = reaches_more old.limit (fed ++ c.front) among.sections (old.came ++ c.front) (c.last ∷ []) among.reaches in
    let long : length ((old.came ++ c.front) ++ c.last ∷ []) ≡ length (c.text.size ++ c.text.name) = ap length c.text.whole in
    record {
      went_on = inr (old.came ++ c.front, among);
      sections = among.sections;
      reaches = subst (Reaches old.limit ((fed ++ c.front) ++ c.last ∷ []) among.sections) c.text.whole reaches;
      at_is = omega (arith, length-append (fed ++ c.front) (c.last ∷ []), length-append (old.came ++ c.front) (c.last ∷ []), length-append fed c.front, length-append old.came c.front);
    }

pub section_above : TextLaws → (old new : ReaderState) (piece : List ℕ) (at number : ℕ) → new.limit ≡ old.limit → old.in_header ≡ false
    → at ≡ old.place → number ≡ old.limit → ((d : Declared) × Completes old.came piece d × (old.limit < d.number))
    → Stops old new piece (faults.BlockLimit at number)
section_above laws old new piece at number limit was at_is number_is (d, c, above) = record {
  limit = limit;
  stops = λ fed given k.
      let o = as_section old fed given was k in
      let r = at_last_byte laws old fed given piece d c o in
      record {
        front = c.front;
        last = c.last;
        more = c.more;
        whole = c.whole;
        went_on = r.went_on;
        brings = (
          number_is,
          length fed - length old.came,
          at_is ∙ o.place_is,
          record {
            sections = r.sections;
            cid = d.cid;
            size = c.text.size;
            name = c.text.name;
            number = d.number;
            reaches = r.reaches;
            size_is = c.text.size_is;
            name_is = c.text.name_is;
            at_is = r.at_is;
            above = above;
          },
        );
        looked_at = λ e inside. absurd cc;
      };
}

pub section_memory : TextLaws → (old new : ReaderState) (piece : List ℕ) → new.limit ≡ old.limit → old.in_header ≡ false
    → ((d : Declared) × Completes old.came piece d × (d.number ≤ old.limit) × (0 < d.number)) → Stops old new piece faults.OutOfMemory
section_memory laws old new piece limit was (d, c, within, some) = record {
  limit = limit;
  stops = λ fed given k.
      let r = at_last_byte laws old fed given piece d c (as_section old fed given was k) in
      record {
        front = c.front;
        last = c.last;
        more = c.more;
        whole = c.whole;
        went_on = r.went_on;
        brings = inr (inr (record {
          sections = r.sections;
          cid = d.cid;
          size = c.text.size;
          name = c.text.name;
          number = d.number;
          reaches = r.reaches;
          size_is = c.text.size_is;
          name_is = c.text.name_is;
          some = some;
          within = within;
        }));
        looked_at = λ e inside. absurd (none_in_header laws r.reaches.roots r.reaches.header (r.reaches.done ++ (c.text.size ++ c.text.name))
            ((fed ++ c.front) ++ c.last ∷ []) r.reaches.header_is (sym r.reaches.whole) inside);
      };
}

-- what a reader that refused nothing gave is what its bytes complete
holds_exact : (b : Bool) (s : ReaderState) (fed : List ℕ) (given : List Event) → Holds b s fed given → GoesOn s.limit fed given
holds_exact true s fed given k = inl k.before
holds_exact false s fed given k = inr (s.came, k.among)

none_stopped : (limit : ℕ) (h : History) (o : Option Stop) → o ≡ None → HasStopped limit h o
none_stopped limit h o e = subst (HasStopped limit h) (sym e) tt

unstopped : (s : Option Stop) → fault_of s ≡ None → s ≡ None
unstopped None e = refl
unstopped (Some (at_piece piece fault)) e = absurd cc
unstopped (Some (at_end fault)) e = absurd cc

unrefused : (s : ReaderState) (h : History) → s.refused ≡ None → StandsFor s h → h.stop ≡ None
unrefused s h e k = unstopped h.stop (sym k.refused ∙ e)

pub stands_on : (old new : ReaderState) (piece : List ℕ) (taken : ℕ) (event : Event) → Steps old new piece taken event → old.refused ≡ None
    → (h : History) → StandsFor old h
    → StandsFor new (record { fed = h.fed ++ take taken piece; given = h.given ++ given_by event; stop = h.stop })
stands_on old new piece taken event s none h k =
    let going = unrefused old h none k in
    let next : History = record { fed = h.fed ++ take taken piece; given = h.given ++ given_by event; stop = h.stop } in
    let holds : Holds new.in_header new next.fed next.given = s.holds h.fed h.given (k.holds going) in
    record {
      exact = record { goes_on = holds_exact new.in_header new next.fed next.given holds; stopped = none_stopped new.limit next h.stop going };
      refused = s.refused ∙ (none ∙ sym (ap fault_of going));
      holds = λ _. holds;
    }

stops_so : (limit : ℕ) (new : ReaderState) (h : History) (stop : Stop) (o : Option Stop) → o ≡ None → new.limit ≡ limit
    → new.refused ≡ fault_of (Some stop) → GoesOn limit h.fed h.given
    → HasStopped limit (record { fed = h.fed; given = h.given; stop = Some stop }) (Some stop) → StandsFor new (stopped h stop o)
stops_so limit new h stop (Some before) e same refused goes cause = absurd cc
stops_so limit new h stop None e same refused goes cause = record {
  exact = subst (λ (n : ℕ). IsExact n (record { fed = h.fed; given = h.given; stop = Some stop })) (sym same)
      (record { goes_on = goes; stopped = cause });
  refused = refused;
  holds = λ none. absurd cc;
}

pub stands_refused : (old mid new : ReaderState) (piece : List ℕ) (fault : CarFault) → Stops old mid piece fault → old.refused ≡ None
    → new.limit ≡ mid.limit → new.refused ≡ Some fault → (h : History) → StandsFor old h → StandsFor new (stopped h (at_piece piece fault) h.stop)
stands_refused old mid new piece fault s none limit refused h k =
    let going = unrefused old h none k in
    stops_so old.limit new h (at_piece piece fault) h.stop going (limit ∙ s.limit) refused k.exact.goes_on (s.stops h.fed h.given (k.holds going))

-- the bytes end inside the header or a section
pub stands_torn : (old new : ReaderState) (at : ℕ) → old.refused ≡ None → new.limit ≡ old.limit → new.refused ≡ Some (faults.Torn at)
    → ((fed : List ℕ) (given : List Event) → Holds old.in_header old fed given → HasEndCause old.limit fed (faults.Torn at))
    → (h : History) → StandsFor old h → StandsFor new (stopped h (at_end (faults.Torn at)) h.stop)
stands_torn old new at none limit refused cause h k =
    let going = unrefused old h none k in
    stops_so old.limit new h (at_end (faults.Torn at)) h.stop going limit refused k.exact.goes_on (cause h.fed h.given (k.holds going))

pub torn_header : (old : ReaderState) (at : ℕ) → old.in_header ≡ true → at ≡ 0 → (fed : List ℕ) (given : List Event)
    → Holds old.in_header old fed given → HasEndCause old.limit fed (faults.Torn at)
torn_header old at was e fed given k = inl (e, (as_header old fed given was k).before.inside)

some_left : (l : List ℕ) → (l ≡ [] → ⊥) → 0 < length l
some_left [] h = absurd (h refl)
some_left (x ∷ l) h = omega arith

pub torn_section : (old : ReaderState) (at : ℕ) → old.in_header ≡ false → at ≡ old.place → (old.came ≡ [] → ⊥) → (fed : List ℕ) (given : List Event)
    → Holds old.in_header old fed given → HasEndCause old.limit fed (faults.Torn at)
torn_section old at was e some fed given k =
    let o = as_section old fed given was k in
    inr (
      length fed - length old.came,
      e ∙ o.place_is,
      record {
        sections = o.among.sections;
        rest = old.came;
        reaches = o.among.reaches;
        inside = o.among.inside;
        begun = some_left old.came some;
        at_is = refl;
      },
    )

-- the bytes end where a section may begin
pub whole_car : (old : ReaderState) → old.refused ≡ None → old.in_header ≡ false → old.came ≡ [] → (h : History) → StandsFor old h
    → IsGivenOf h.fed h.given
whole_car old none was nothing_came h k =
    let o = as_section old h.fed h.given was (k.holds (unrefused old h none k)) in
    let r = o.among.reaches in
    record {
      roots = r.roots;
      sections = o.among.sections;
      placed = o.among.placed;
      text = record {
        header = r.header;
        rest = r.done;
        whole = r.whole ∙ ap (λ (l : List ℕ). r.header ++ l) (ap (λ (l : List ℕ). r.done ++ l) nothing_came ∙ append-nil r.done);
        header_is = r.header_is;
        sections_are = r.sections_are;
      };
      given_is = o.among.given_is;
      placed_are = o.among.placed_are;
    }

nothing_in_header : TextLaws → IsInHeader []
nothing_in_header laws = record {
  roots = [];
  more = 17 ∷ header_map [];
  not_whole = omega arith;
  text = record {
    few = omega arith;
    each = All-nil (λ (root : List ℕ). IsRoot root);
    size = 17 ∷ [];
    size_is = laws.varints.one_byte 17 (omega arith);
    whole = refl;
  };
}

-- the same of an equal reader
pub steps_from : (old other new : ReaderState) (piece : List ℕ) (taken : ℕ) (event : Event) → old ≡ other → Steps old new piece taken event
    → Steps other new piece taken event
steps_from old other new piece taken event e s = subst (λ (o : ReaderState). Steps o new piece taken event) e s

pub stops_from : (old other new : ReaderState) (piece : List ℕ) (fault : CarFault) → old ≡ other → Stops old new piece fault
    → Stops other new piece fault
stops_from old other new piece fault e s = subst (λ (o : ReaderState). Stops o new piece fault) e s

pub stands_new : TextLaws → (new : ReaderState) → new.refused ≡ None → new.in_header ≡ true → new.place ≡ 0 → new.text ≡ [] → new.came ≡ []
    → FollowsHeader new.header [] → StandsFor new nothing
stands_new laws new none is place text came follows =
    let before : IsBeforeSections [] [] = record { nothing_given = refl; inside = nothing_in_header laws } in
    record {
      exact = record { goes_on = inl before; stopped = tt };
      refused = none;
      holds = λ _. subst (λ (b : Bool). Holds b new [] []) (sym is) (record {
        before = before;
        follows = follows;
        text_is = text;
        none_came = came;
        place_is = place;
      });
    }
