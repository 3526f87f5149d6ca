-- A root has one header of a CAR, and a section has one text.
use Rattle.std.proofs.Common.{List, [], ap, inl, inr, length, refl, subst, sym, ℕ, ◌++◌, ◌∙◌, ◌∷◌, ◌≡◌}
use Rattle.std.proofs.lemmas.List.{length-append}
use Rattle.tg_car.specs.CarText.{SectionText, header_map}
use Rattle.tg_car.specs.Writing.{HeaderOf}
use Rattle.tg_cid.specs.Cid.{CidParts}
use Rattle.tg_cid.specs.Computed.{v1_bytes}
use Rattle.tg_cid.specs.Laws.{OneSpelling}
use Rattle.tg_cid.specs.Spelling.{CidBytes, CidV1Bytes}
use Rattle.tg_model.specs.Dag.{Section}
use Rattle.tg_reply.specs.Bodies.{car_section}
use Rattle.tg_reply.specs.CarBytes.{car_header, cid_bytes, section_bytes, sized}
use Rattle.tg_reply.proofs.CarTexts.{version_one, version_zero}
use Rattle.tg_varint.specs.Computed.{varint}
use Rattle.tg_varint.specs.Laws.{SpellingLaws}
use Rattle.tg_varint.specs.Varint.{VarintSpelling}

-- the laws of the crates below
pub record OneBelow : Type 0 where
  pub bytes : (cid : CidParts) (bytes : List ℕ) → CidBytes cid bytes → CidV1Bytes (record cid { version = 1 }) (v1_bytes cid)
  pub cids : OneSpelling
  pub varints : SpellingLaws

-- the varint of a number is the one that is computed
one_varint : OneBelow → (n : ℕ) (size : List ℕ) → VarintSpelling n size → size ≡ varint n
one_varint below n size h =
    below.varints.one_spelling n size (varint n) h (below.varints.computed n (below.varints.below n size h))

-- bytes behind their length are those that are computed
one_sized : OneBelow → (size bytes : List ℕ) → VarintSpelling (length bytes) size → size ++ bytes ≡ sized bytes
one_sized below size bytes h = ap (λ (l : List ℕ). l ++ bytes) (one_varint below (length bytes) size h)

-- the bytes of a CIDv1 are the computed ones
one_v1 : OneBelow → (one : CidParts) (name : List ℕ) → one.version ≡ 1 → CidBytes one name → name ≡ v1_bytes one
one_v1 below one name e h =
    let same : CidV1Bytes one (v1_bytes one) = subst (λ (v : ℕ). CidV1Bytes (record one { version = v }) (v1_bytes one)) (sym e) (below.bytes one name h) in
    below.cids.one_bytes one name (v1_bytes one) h (inr same)

pub one_header : OneBelow → (root : CidParts) (bytes : List ℕ) → HeaderOf root bytes → bytes ≡ car_header root
one_header below root bytes (name, name_is, text) =
    let map_of : List ℕ → List ℕ = λ (name : List ℕ). header_map ((0 ∷ name) ∷ []) in
    text.whole ∙ one_sized below text.size (map_of name) text.size_is
    ∙ ap (λ (name : List ℕ). sized (map_of name)) (one_v1 below (record root { version = 1 }) name refl name_is)

-- and so are those of any CID
one_name : OneBelow → (cid : CidParts) (name : List ℕ) → CidBytes cid name → name ≡ cid_bytes cid
one_name below cid name (inl h) = h.whole ∙ sym (version_zero cid h.version)
one_name below cid name (inr h) = one_v1 below cid name h.version (inr h) ∙ sym (version_one cid h.version)

pub one_section : OneBelow → (section : Section) (text : List ℕ) → SectionText (car_section section) text → text ≡ section_bytes section
one_section below section text h =
    let sum = length-append h.name section.block in
    let size_is = subst (λ (n : ℕ). VarintSpelling n h.size) (sym sum) h.size_is in
    h.whole ∙ one_sized below h.size (h.name ++ section.block) size_is
    ∙ ap (λ (name : List ℕ). sized (name ++ section.block)) (one_name below section.cid h.name h.name_is)
