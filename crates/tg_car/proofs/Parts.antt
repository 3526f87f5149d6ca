-- A section whose length and CID are whole, and bytes of its block.
use Rattle.std.proofs.Common.{◌≡◌, ℕ, ◌+◌, ◌-◌, ◌<◌, ◌≤◌, List, [], ◌∷◌, ◌++◌, length, take, drop, get_or, replicate, All, refl, ap, sym, ◌∙◌, subst, arith}
use Rattle.std.proofs.lemmas.List.{append_assoc, length-append, length-replicate, length-take-le, take_more}
use Rattle.std.proofs.lemmas.List.Elements.{All-append, All-replicate}
use Rattle.tg_varint.specs.GroupLaws.{parted_at}
use Rattle.tg_car.specs.TextLaws.{TextLaws}
use Rattle.tg_varint.specs.Varint.{VarintSpelling}
use Rattle.tg_cid.specs.Cid.{CidParts}
use Rattle.tg_car.specs.declared.head.Declared.{Declared}
use Rattle.tg_car.specs.CarText.{SectionText}
use Rattle.tg_car.specs.Fronts.{IsInSection, IsWithin, Declares}
use Rattle.tg_car.specs.Heads.{HeadText, IsInHead}
use Rattle.tg_car.proofs.Heads.{one_head, not_both}

pub whole_section : (c : CidParts) (n : ℕ) (head block : List ℕ) → HeadText c n head → length block ≡ n → All (λ b. b < 256) block
    → SectionText (record { cid = c; block = block }) (head ++ block)
whole_section c n head block h size bytes = record {
  size = h.size;
  name = h.name;
  size_is = subst (λ (m : ℕ). VarintSpelling (length h.name + m) h.size) (sym size) h.size_is;
  name_is = h.name_is;
  are_bytes = bytes;
  whole = ap (λ (l : List ℕ). l ++ block) h.whole ∙ append_assoc h.size h.name block;
}

-- bytes of a length and CID begin a section
pub head_inside : (head : List ℕ) → IsInHead head → IsInSection head
head_inside head h =
    let block = replicate {A = ℕ} h.number 0 in
    record {
      section = record { cid = h.cid; block = block };
      more = h.more ++ block;
      not_whole = let some : 0 < length h.more = h.not_whole in omega (arith, length-append h.more block);
      text = subst (SectionText (record { cid = h.cid; block = block })) (append_assoc head h.more block)
          (whole_section h.cid h.number (head ++ h.more) block h.text (length-replicate {A = ℕ} h.number 0) (All-replicate (λ (b : ℕ). b < 256) h.number 0 (omega arith)));
    }

declared_head : (bytes : List ℕ) (n : ℕ) → (d : Declares bytes n) → HeadText d.cid n (d.size ++ d.name)
declared_head bytes n d = record { size = d.size; name = d.name; whole = refl; size_is = d.size_is; name_is = d.name_is }

-- they declare nothing yet
pub head_within : TextLaws → (limit : ℕ) (head : List ℕ) → IsInHead head → IsWithin limit head
head_within laws limit head h n d =
    let whole : head ≡ (d.size ++ d.name) ++ d.begun = d.whole ∙ sym (append_assoc d.size d.name d.begun) in
    absurd (not_both laws d.cid h.cid n h.number (d.size ++ d.name) d.begun h.more (declared_head head n d)
    (subst (HeadText h.cid h.number) (ap (λ (l : List ℕ). l ++ h.more) whole ∙ append_assoc (d.size ++ d.name) d.begun h.more) h.text) h.not_whole)

-- with fewer bytes than those of its block a section goes on
pub block_inside : (c : CidParts) (n : ℕ) (head block : List ℕ) → HeadText c n head → length block < n → All (λ b. b < 256) block
    → IsInSection (head ++ block)
block_inside c n head block h less bytes =
    let left : ℕ = n - length block in
    let more = replicate {A = ℕ} left 0 in
    let count : length more ≡ left = length-replicate {A = ℕ} left 0 in
    let all = block ++ more in
    let size : length all ≡ n = length-append block more ∙ omega arith in
    record {
      section = record { cid = c; block = all };
      more = more;
      not_whole = omega arith;
      text = subst (SectionText (record { cid = c; block = all })) (sym (append_assoc head block more))
          (whole_section c n head all h size (All-append (λ (b : ℕ). b < 256) block more bytes (All-replicate (λ (b : ℕ). b < 256) left 0 (omega arith))));
    }

pub whole_within : TextLaws → (limit : ℕ) (c : CidParts) (n : ℕ) (head block : List ℕ) → HeadText c n head → n ≤ limit → IsWithin limit (head ++ block)
whole_within laws limit c n head block h less m d =
    let whole : head ++ block ≡ (d.size ++ d.name) ++ d.begun = d.whole ∙ sym (append_assoc d.size d.name d.begun) in
    let same = one_head laws c d.cid n m head (d.size ++ d.name) block d.begun h (declared_head (head ++ block) m d) whole in
    let numbers : n ≡ m = same.numbers in
    omega arith

-- what a section at hand declares is within the limit
pub declared_within : (limit : ℕ) (c : CidParts) (n : ℕ) (head block : List ℕ) → HeadText c n head → IsWithin limit (head ++ block) → n ≤ limit
declared_within limit c n head block h within = within n (record {
  cid = c;
  size = h.size;
  name = h.name;
  begun = block;
  whole = ap (λ (l : List ℕ). l ++ block) h.whole ∙ append_assoc h.size h.name block;
  size_is = h.size_is;
  name_is = h.name_is;
})

-- one more byte of a piece
pub one_more : (bytes piece : List ℕ) (at : ℕ) → at < length piece → (bytes ++ take at piece) ++ get_or piece at 0 ∷ [] ≡ bytes ++ take (at + 1) piece
one_more bytes piece at less =
    append_assoc bytes (take at piece) (get_or piece at 0 ∷ []) ∙ ap (λ (l : List ℕ). bytes ++ l) (sym (take_more piece at 0 less))

-- a length and CID without their last byte go on
pub head_before : (d : Declared) (head : List ℕ) (last : ℕ) → HeadText d.cid d.number (head ++ last ∷ []) → IsInHead head
head_before d head last text = record { cid = d.cid; number = d.number; more = last ∷ []; not_whole = omega arith; text = text }

-- the last byte of those that are taken of a piece
pub record Last (bytes piece : List ℕ) (taken : ℕ) : Type 0 where
  pub front : List ℕ
  pub last : ℕ
  pub more : List ℕ
  pub whole : piece ≡ front ++ last ∷ more
  pub taken_is : bytes ++ take taken piece ≡ (bytes ++ front) ++ last ∷ []
  pub front_long : length front + 1 ≡ taken

pub before_last : (bytes piece : List ℕ) (taken : ℕ) → 0 < taken → taken ≤ length piece → Last bytes piece taken
before_last bytes piece taken some less =
    let at : ℕ = taken - 1 in
    let next : at + 1 ≡ taken = omega arith in
    record {
      front = take at piece;
      last = get_or piece at 0;
      more = drop (at + 1) piece;
      whole = parted_at piece at (omega arith);
      taken_is = ap (λ (n : ℕ). bytes ++ take n piece) (sym next) ∙ sym (one_more bytes piece at (omega arith));
      front_long = ap (λ (n : ℕ). n + 1) (length-take-le at piece (omega arith)) ∙ next;
    }
