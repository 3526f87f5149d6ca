-- The parts of a CAR are its header and its sections.
use Rattle.std.proofs.Common.{◌≡◌, ℕ, ◌+◌, ◌^◌, ◌<◌, ◌≤◌, Bool, true, false, All, List, [], ◌∷◌, ◌++◌, cond, inl, inr, length, map, refl, sym, ap, subst, ◌∙◌, arith}
use Rattle.std.specs.Prelude.{codes, nat_lt, ◌==◌}
use Rattle.std.proofs.lemmas.List.{length-append}
use Rattle.std.proofs.lemmas.List.Elements.{All-cons, All-head, All-map, All-nil, All-tail, All-weaker}
use Rattle.tg_bytes.specs.Lists.{joined}
use Rattle.tg_car.specs.CarText.{HeaderText, IsRoot, SectionText, SectionsText, header_map, string_head}
use Rattle.tg_cid.specs.Cid.{CidParts}
use Rattle.tg_cid.specs.Computed.{v1_bytes}
use Rattle.tg_cid.specs.Laws.{LengthLaws}
use Rattle.tg_cid.specs.Spelling.{CidBytes, CidV1Bytes}
use Rattle.tg_model.specs.Dag.{Section}
use Rattle.tg_reply.specs.Bodies.{CarsInParts, IsPart, IsSpelled, car_section}
use Rattle.tg_reply.specs.CarBytes.{car_header, cid_bytes, section_bytes, sized}
use Rattle.tg_varint.specs.Computed.{varint}
use Rattle.tg_varint.specs.GroupLaws.{not_empty}
use Rattle.tg_varint.specs.Laws.{SpellingLaws}
use Rattle.tg_varint.specs.Varint.{VarintSpelling}

-- the laws of the crates below
pub record Below : Type 0 where
  pub bytes : (cid : CidParts) (bytes : List ℕ) → CidBytes cid bytes → CidV1Bytes (record cid { version = 1 }) (v1_bytes cid)
  pub lengths : LengthLaws
  pub varints : SpellingLaws

-- ---- bytes behind their length

part_of : Below → (bytes : List ℕ) → length bytes < 2 ^ 62 → IsPart (sized bytes)
part_of below bytes small =
    let told = below.varints.computed (length bytes) (omega (arith, small)) in
    let few = below.varints.at_most (length bytes) 9 (varint (length bytes)) (omega arith) (omega (arith, small)) told in
    let both = length-append (varint (length bytes)) bytes in
    (omega (arith, not_empty (length bytes) (varint (length bytes)) told, both), omega (arith, few, both, small))

-- ---- the header

string_head_short : (n : ℕ) → length (string_head n) ≤ 2
string_head_short n = by_test (nat_lt n 24)
  where
    by_test : (t : Bool) → length (cond t ((0x40 + n) ∷ []) (0x58 ∷ n ∷ [])) ≤ 2
    by_test true = omega arith
    by_test false = omega arith

map_short : (root : List ℕ) → length root ≤ 200 → length (header_map (root ∷ [])) ≤ 300
map_short root h =
    let tail = 0x67 ∷ (codes "version" ++ 1 ∷ []) in
    omega (
      arith,
      h,
      string_head_short (length root),
      length-append (string_head (length root)) root,
      length-append (string_head (length root) ++ root) [],
      length-append ((string_head (length root) ++ root) ++ []) tail,
    )

header_is : Below → (root : CidParts) (name : List ℕ) → CidBytes root name → HeaderText ((0 ∷ v1_bytes root) ∷ []) (car_header root)
header_is below root name h =
    let one = record root { version = 1 } in
    let v1 : CidBytes one (v1_bytes root) = inr (below.bytes root name h) in
    let most = below.lengths.most one (v1_bytes root) v1 in
    let some = below.lengths.some one (v1_bytes root) v1 in
    let bytes = header_map ((0 ∷ v1_bytes root) ∷ []) in
    record {
      few = omega arith;
      each =
          All-cons IsRoot (0 ∷ v1_bytes root) []
          (record {
            rest = v1_bytes root;
            begins = refl;
            low = omega (arith, some);
            high = omega (arith, most);
            are_bytes = All-cons (λ (b : ℕ). b < 256) 0 (v1_bytes root) (omega arith) (below.lengths.are_bytes one (v1_bytes root) v1);
          })
          (All-nil IsRoot);
      size = varint (length bytes);
      size_is = below.varints.computed (length bytes) (omega (arith, map_short (0 ∷ v1_bytes root) (omega (arith, most))));
      whole = refl;
    }

header_part : Below → (root : CidParts) (name : List ℕ) → CidBytes root name → IsPart (car_header root)
header_part below root name h =
    let v1 : CidBytes (record root { version = 1 }) (v1_bytes root) = inr (below.bytes root name h) in
    let most = below.lengths.most (record root { version = 1 }) (v1_bytes root) v1 in
    part_of below (header_map ((0 ∷ v1_bytes root) ∷ [])) (omega (arith, map_short (0 ∷ v1_bytes root) (omega (arith, most))))

-- ---- sections

pub version_zero : (cid : CidParts) → cid.version ≡ 0 → cid_bytes cid ≡ 0x12 ∷ 0x20 ∷ cid.digest
version_zero cid e = ap (λ (v : ℕ). cond (v == 0) (0x12 ∷ 0x20 ∷ cid.digest) (v1_bytes cid)) e

pub version_one : (cid : CidParts) → cid.version ≡ 1 → cid_bytes cid ≡ v1_bytes cid
version_one cid e = ap (λ (v : ℕ). cond (v == 0) (0x12 ∷ 0x20 ∷ cid.digest) (v1_bytes cid)) e

spelled_again : Below → (cid : CidParts) (name : List ℕ) → CidBytes cid name → CidBytes cid (cid_bytes cid)
spelled_again below cid name (inl h) = subst (CidBytes cid) (h.whole ∙ sym (version_zero cid h.version)) (inl h)
spelled_again below cid name (inr h) =
    let v1 = below.bytes cid name (inr h) in
    let same : CidV1Bytes cid (v1_bytes cid) = subst (λ (v : ℕ). CidV1Bytes (record cid { version = v }) (v1_bytes cid)) (sym h.version) v1 in
    subst (CidBytes cid) (sym (version_one cid h.version)) (inr same)

section_is : Below → (section : Section) → IsSpelled section → SectionText (car_section section) (section_bytes section)
section_is below section s =
    let name = spelled_again below section.cid s.name s.name_is in
    let most = below.lengths.most section.cid (cid_bytes section.cid) name in
    let both = length-append (cid_bytes section.cid) section.block in
    let spelled = below.varints.computed (length (cid_bytes section.cid ++ section.block)) (omega (arith, most, both, s.small)) in
    record {
      size = varint (length (cid_bytes section.cid ++ section.block));
      name = cid_bytes section.cid;
      size_is = subst (λ (n : ℕ). VarintSpelling n (varint (length (cid_bytes section.cid ++ section.block)))) both spelled;
      name_is = name;
      are_bytes = s.are_bytes;
      whole = refl;
    }

section_part : Below → (section : Section) → IsSpelled section → IsPart (section_bytes section)
section_part below section s =
    let name = spelled_again below section.cid s.name s.name_is in
    let most = below.lengths.most section.cid (cid_bytes section.cid) name in
    part_of below (cid_bytes section.cid ++ section.block) (omega (arith, most, length-append (cid_bytes section.cid) section.block, s.small))

sections_are : Below → (sections : List Section) → All IsSpelled sections → SectionsText (map car_section sections) (joined (map section_bytes sections))
sections_are below [] all = refl
sections_are below (section ∷ sections) all = (
  section_bytes section,
  joined (map section_bytes sections),
  refl,
  section_is below section (All-head IsSpelled section sections all),
  sections_are below sections (All-tail IsSpelled section sections all),
)

pub cars_in_parts : Below → CarsInParts
cars_in_parts below root name sections h all = record {
  text = record {
    header = car_header root;
    rest = joined (map section_bytes sections);
    whole = refl;
    header_is = header_is below root name h;
    sections_are = sections_are below sections all;
  };
  parts =
      All-cons IsPart (car_header root) (map section_bytes sections) (header_part below root name h)
      (All-map IsPart section_bytes sections (All-weaker IsSpelled (λ (s : Section). IsPart (section_bytes s)) (section_part below) sections all));
}
