-- What is taken of a piece into the section at hand.
use Rattle.std.proofs.Common.{◌≡◌, ℕ, ◌+◌, ◌<◌, ◌≤◌, Option, Some, None, List, [], ◌∷◌, ◌++◌, length, take, drop, get_or, vec_capacity, All, refl, ap, ap₂, sym, ◌∙◌, subst, arith}
use Rattle.std.proofs.lemmas.List.{append_assoc, append-nil, length-append, length-drop, length-take-le, take-append-drop}
use Rattle.std.proofs.lemmas.List.Elements.{All-append, All-take, All-drop, All-nil}
use Rattle.std.proofs.Math.Seq.{take-add}
use Rattle.tg_varint.specs.GroupLaws.{parted_at}
use Rattle.tg_car.specs.TextLaws.{TextLaws}
use Rattle.tg_car.specs.declared.section.Section.{Section}
use Rattle.tg_car.specs.declared.head.Declared.{Declared}
use Rattle.tg_car.specs.declared.head.Front.{Front}
use Rattle.tg_car.specs.declared.head.Front.TheVariants.{Open, Whole, Broken}
use Rattle.tg_car.specs.declared.part.Part.{Part}
use Rattle.tg_car.specs.declared.part.PartFault.{PartFault}
use Rattle.tg_car.specs.CarText.{SectionText}
use Rattle.tg_car.specs.Fronts.{IsInSection, IsWithin}
use Rattle.tg_car.specs.Heads.{HeadText, IsInHead, IsNoHead}
use Rattle.tg_car.specs.Filling.{IsPart, IsPartOf, IsFront, Fills, came_of, Takes, TakesHead, TakesBlock, StopsPart, Completes}
use Rattle.tg_car.proofs.Openings.{nothing_in_head}
use Rattle.tg_car.proofs.Parts.{one_more, before_last, whole_section, head_inside, head_within, block_inside, whole_within, declared_within}

-- nothing came
pub no_part : TextLaws → (d : Option Declared) (part : Part) → d ≡ None → part.head ≡ [] → part.block.items ≡ [] → IsPartOf d part
no_part laws d part e h b = subst (λ (o : Option Declared). IsPartOf o part) (sym e) (nothing_in_head laws part.head h, b)

pub open_part : (part : Part) → IsPart part → part.declared ≡ None → IsInHead part.head × (part.block.items ≡ [])
open_part part p e = subst (λ (o : Option Declared). IsPartOf o part) e p

pub begun_part : (part : Part) (d : Declared) → IsPart part → part.declared ≡ Some d
    → HeadText d.cid d.number part.head × (length part.block.items < d.number) × All (λ b. b < 256) part.block.items
    × (d.number ≤ vec_capacity part.block)
begun_part part d p e = subst (λ (o : Option Declared). IsPartOf o part) e p

-- what `Takes` says, but for that something moves
abbrev Gives : ℕ → List ℕ → List ℕ → List ℕ → ℕ → Option Section → Type 0
Gives limit old new piece taken None = Takes limit old new piece taken None
Gives limit old new piece taken (Some section) =
    (taken ≤ length piece) × (new ≡ []) × SectionText section (old ++ take taken piece) × (IsWithin limit old → length section.block ≤ limit)

gives : TextLaws → (limit : ℕ) (d : Declared) (old new : Part) (piece : List ℕ) (taken : ℕ) (section : Option Section) → HeadText d.cid d.number old.head
    → All (λ b. b < 256) old.block.items → All (λ b. b < 256) piece → TakesBlock d old new piece taken section
    → Gives limit (came_of old) (came_of new) piece taken section
gives laws limit d old new piece taken None text bytes piece_bytes t =
    let all = old.block.items ++ piece in
    let came : came_of new ≡ old.head ++ all = ap₂ (λ (p q : List ℕ). p ++ q) t.1 t.2 in
    let less : length all < d.number = subst (λ (l : List ℕ). length l < d.number) t.2 t.3 in (
      t.0,
      came ∙ sym (append_assoc old.head old.block.items piece),
      subst IsInSection (sym came)
          (block_inside d.cid d.number old.head all text less (All-append (λ (b : ℕ). b < 256) old.block.items piece bytes piece_bytes)),
      λ within. subst (IsWithin limit) (sym came)
          (whole_within laws limit d.cid d.number old.head all text (declared_within limit d.cid d.number old.head old.block.items text within)),
    )
gives laws limit d old new piece taken (Some section) text bytes piece_bytes t =
    let front = take taken piece in
    let all = old.block.items ++ front in
    let size : length all ≡ d.number =
    length-append old.block.items front ∙ (ap (λ (n : ℕ). length old.block.items + n) (length-take-le taken piece t.0) ∙ t.1) in
    let made : SectionText (record { cid = d.cid; block = all }) (old.head ++ all) =
    whole_section d.cid d.number old.head all text size
    (All-append (λ (b : ℕ). b < 256) old.block.items front bytes (All-take (λ (b : ℕ). b < 256) taken piece piece_bytes)) in
    let block : section.block ≡ all = ap (λ (s : Section). s.block) t.3 in (
      t.0,
      t.2,
      subst (λ (s : Section). SectionText s (came_of old ++ front)) (sym t.3)
          (subst (SectionText (record { cid = d.cid; block = all })) (sym (append_assoc old.head old.block.items front)) made),
      λ within.
          let most : d.number ≤ limit = declared_within limit d.cid d.number old.head old.block.items text within in
          let long : length section.block ≡ length all = ap length block in
          omega arith,
    )

-- bytes of the block
pub takes_block : TextLaws → (limit : ℕ) (d : Declared) (old new : Part) (piece : List ℕ) (taken : ℕ) (section : Option Section) → IsPart old
    → old.declared ≡ Some d → All (λ b. b < 256) piece → TakesBlock d old new piece taken section
    → Takes limit (came_of old) (came_of new) piece taken section
takes_block laws limit d old new piece taken None part e bytes t =
    let b = begun_part old d part e in
    gives laws limit d old new piece taken None b.0 b.2 bytes t
takes_block laws limit d old new piece taken (Some section) part e bytes t =
    let b = begun_part old d part e in
    let g = gives laws limit d old new piece taken (Some section) b.0 b.2 bytes t in
    let less : length old.block.items < d.number = b.1 in
    let sum : length old.block.items + taken ≡ d.number = t.1 in
    (g.0, λ some. omega arith, g.1, g.2, g.3)

-- bytes of the length and the CID alone
pub takes_head : TextLaws → (limit : ℕ) (old new : Part) (piece : List ℕ) (taken : ℕ) → IsPart old → old.declared ≡ None
    → TakesHead limit old new piece taken None → Takes limit (came_of old) (came_of new) piece taken None
takes_head laws limit old new piece taken part e t =
    let o = open_part old part e in
    let before : came_of old ≡ old.head = ap (λ (l : List ℕ). old.head ++ l) o.1 ∙ append-nil old.head in
    let after : came_of new ≡ new.head = ap (λ (l : List ℕ). new.head ++ l) t.2 ∙ append-nil new.head in (
      t.0.0,
      after ∙ (t.0.1 ∙ ap (λ (l : List ℕ). l ++ piece) (sym before)),
      subst IsInSection (sym after) (head_inside new.head t.0.2),
      λ within. subst (IsWithin limit) (sym after) (head_within laws limit new.head t.0.2),
    )

lift : (limit : ℕ) (old mid new piece : List ℕ) (taken more : ℕ) (section : Option Section) → taken ≤ length piece → 0 < taken
    → mid ≡ old ++ take taken piece → IsWithin limit mid → Gives limit mid new (drop taken piece) more section
    → Takes limit old new piece (taken + more) section
lift limit old mid new piece taken more None less some e within g =
    let rest : more ≡ length (drop taken piece) = g.0 in (
      omega (arith, length-drop taken piece),
      g.1 ∙ (ap (λ (l : List ℕ). l ++ drop taken piece) e
          ∙ (append_assoc old (take taken piece) (drop taken piece) ∙ ap (λ (l : List ℕ). old ++ l) (take-append-drop taken piece))),
      g.2,
      λ _. g.3 within,
    )
lift limit old mid new piece taken more (Some section) less some e within g =
    let rest : more ≤ length (drop taken piece) = g.0 in
    let whole : mid ++ take more (drop taken piece) ≡ old ++ take (taken + more) piece =
    ap (λ (l : List ℕ). l ++ take more (drop taken piece)) e
    ∙ (append_assoc old (take taken piece) (take more (drop taken piece)) ∙ ap (λ (l : List ℕ). old ++ l) (sym (take-add taken more piece))) in (
      omega (arith, length-drop taken piece),
      λ _. omega arith,
      g.1,
      subst (SectionText section) whole g.2,
      λ _. g.3 within,
    )

-- the rest of the length and the CID, and bytes of the block
pub takes_both : TextLaws → (limit : ℕ) (d : Declared) (old mid new : Part) (piece : List ℕ) (taken more : ℕ) (section : Option Section) → IsPart old
    → old.declared ≡ None → All (λ b. b < 256) piece → TakesHead limit old mid piece taken (Some d)
    → TakesBlock d mid new (drop taken piece) more section → Takes limit (came_of old) (came_of new) piece (taken + more) section
takes_both laws limit d old mid new piece taken more section part e bytes t u =
    let o = open_part old part e in
    let before : came_of old ≡ old.head = ap (λ (l : List ℕ). old.head ++ l) o.1 ∙ append-nil old.head in
    let after : came_of mid ≡ mid.head = ap (λ (l : List ℕ). mid.head ++ l) t.2 ∙ append-nil mid.head in
    let none : All (λ b. b < 256) mid.block.items =
    subst (λ (l : List ℕ). All (λ b. b < 256) l) (sym t.2) (All-nil (λ (b : ℕ). b < 256)) in
    let g = gives laws limit d mid new (drop taken piece) more section t.0.3 none (All-drop (λ (b : ℕ). b < 256) taken piece bytes) u in
    lift limit (came_of old) (came_of mid) (came_of new) piece taken more section t.0.0 t.0.1
    (after ∙ (t.0.2 ∙ ap (λ (l : List ℕ). l ++ take taken piece) (sym before)))
    (whole_within laws limit d.cid d.number mid.head mid.block.items t.0.3 t.1) g

-- where nothing of the block came, what came is the head
pub stops_part : (limit : ℕ) (old : Part) (piece : List ℕ) (fault : PartFault) → IsPart old → old.declared ≡ None
    → StopsPart limit old.head piece fault → StopsPart limit (came_of old) piece fault
stops_part limit old piece fault part e s =
    let o = open_part old part e in
    let before : came_of old ≡ old.head = ap (λ (l : List ℕ). old.head ++ l) o.1 ∙ append-nil old.head in
    subst (λ (l : List ℕ). StopsPart limit l piece fault) (sym before) s

-- the last byte of a length and CID that were filled in
pub completes : (old new piece : List ℕ) (taken : ℕ) (d : Declared) → Fills old new piece taken (Whole d) → Completes old piece d
completes old new piece taken d f =
    let last = before_last old piece taken f.1 f.0 in
    record {
      front = last.front;
      last = last.last;
      more = last.more;
      whole = last.whole;
      text = subst (HeadText d.cid d.number) (f.2 ∙ last.taken_is) f.3;
    }

-- the head is whole or broken with one more byte
pub filled : (old head new piece : List ℕ) (at : ℕ) (front : Front) → at < length piece → head ≡ old ++ take at piece → IsInHead head
    → new ≡ head ++ get_or piece at 0 ∷ [] → IsFront new front → (front ≡ Open → ⊥) → Fills old new piece (at + 1) front
filled old head new piece at Open less e inside pushed is other = absurd (other refl)
filled old head new piece at (Whole declared) less e inside pushed is other =
    (omega arith, omega arith, pushed ∙ (ap (λ (l : List ℕ). l ++ get_or piece at 0 ∷ []) e ∙ one_more old piece at less), is)
filled old head new piece at Broken less e inside pushed is other = record {
  front = take at piece;
  last = get_or piece at 0;
  more = drop (at + 1) piece;
  whole = parted_at piece at less;
  went_on = subst IsInHead e inside;
  none = subst IsNoHead (pushed ∙ ap (λ (l : List ℕ). l ++ get_or piece at 0 ∷ []) e) is;
}
