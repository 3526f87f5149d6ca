-- No section's length and CID begin another's.
use Rattle.std.proofs.Common.{◌≡◌, ℕ, ◌+◌, ◌<◌, ◌≤◌, List, [], ◌∷◌, ◌++◌, length, ap, ap₂, sym, ◌∙◌, subst, inl, inr, arith}
use Rattle.std.proofs.lemmas.Bool.{cases_lt}
use Rattle.std.proofs.lemmas.List.{append_assoc, append-nil, append_cancel_left, length-append, length_push}
use Rattle.tg_bytes.specs.Lists.{longer}
use Rattle.tg_car.specs.TextLaws.{TextLaws}
use Rattle.tg_cid.specs.Cid.{CidParts}
use Rattle.tg_varint.specs.GroupLaws.{most_bytes}
use Rattle.tg_car.specs.Heads.{HeadText, IsInHead, IsNoHead}

pub record SameHeads (a b : List ℕ) (c d : CidParts) (m n : ℕ) : Type 0 where
  pub bytes : a ≡ b
  pub cids : c ≡ d
  pub numbers : m ≡ n

pub one_head : TextLaws → (c d : CidParts) (m n : ℕ) (a b x y : List ℕ) → HeadText c m a → HeadText d n b → a ++ x ≡ b ++ y → SameHeads a b c d m n
one_head laws c d m n a b x y h k e =
    let left : a ++ x ≡ h.size ++ (h.name ++ x) = ap (λ (l : List ℕ). l ++ x) h.whole ∙ append_assoc h.size h.name x in
    let right : b ++ y ≡ k.size ++ (k.name ++ y) = ap (λ (l : List ℕ). l ++ y) k.whole ∙ append_assoc k.size k.name y in
    let both : h.size ++ (h.name ++ x) ≡ k.size ++ (k.name ++ y) = sym left ∙ (e ∙ right) in
    let sizes = laws.varints.no_front (length h.name + m) (length k.name + n) h.size k.size (h.name ++ x) (k.name ++ y) h.size_is k.size_is both in
    let rests : h.name ++ x ≡ k.name ++ y =
    append_cancel_left k.size (h.name ++ x) (k.name ++ y) (ap (λ (l : List ℕ). l ++ (h.name ++ x)) (sym sizes.0) ∙ both) in
    let names = laws.cids.no_front c d h.name k.name x y h.name_is k.name_is rests in
    let lengths : length h.name ≡ length k.name = ap length names.0 in
    let sums : length h.name + m ≡ length k.name + n = sizes.1 in
    record {
      bytes = h.whole ∙ (ap₂ (λ (p q : List ℕ). p ++ q) sizes.0 names.0 ∙ sym k.whole);
      cids = names.1;
      numbers = omega arith;
    }

-- what is whole and goes on can't be
pub not_both : TextLaws → (c d : CidParts) (m n : ℕ) (a x more : List ℕ) → HeadText c m a → HeadText d n (a ++ (x ++ more)) → 0 < length more → ⊥
not_both laws c d m n a x more h k some =
    let same = one_head laws c d m n a (a ++ (x ++ more)) (x ++ more) [] h k (sym (append-nil (a ++ (x ++ more)))) in
    let sizes : length a ≡ length (a ++ (x ++ more)) = ap length same.bytes in
    omega (arith, length-append a (x ++ more), length-append x more)

pub head_size : TextLaws → (c : CidParts) (m : ℕ) (a : List ℕ) → HeadText c m a → (0 < length a) × (length a ≤ 142)
head_size laws c m a h =
    let low : 0 < length h.name = laws.lengths.some c h.name h.name_is in
    let high : length h.name ≤ 133 = laws.lengths.most c h.name h.name_is in
    let size : length h.size ≤ 9 = most_bytes (length h.name + m) h.size h.size_is in
    let whole : length a ≡ length h.size + length h.name = ap length h.whole ∙ length-append h.size h.name in
    (omega arith, omega arith)

pub in_head_size : TextLaws → (a : List ℕ) → IsInHead a → length a < 142
in_head_size laws a h =
    let whole = head_size laws h.cid h.number (a ++ h.more) h.text in
    let most : length (a ++ h.more) ≤ 142 = whole.1 in
    let some : 0 < length h.more = h.not_whole in
    omega (arith, length-append a h.more)

-- where a head goes on and no head does with one more byte, no whole head stands before it either
pub no_head_behind : TextLaws → (a : List ℕ) (b : ℕ) (c : CidParts) (m : ℕ) (u x y : List ℕ) → IsInHead a → IsNoHead (a ++ b ∷ []) → HeadText c m u
    → u ++ x ≡ a ++ b ∷ y → ⊥
no_head_behind laws a b c m u x y inside none text e = elim (cases_lt (length a) (length u)) [
  | inl more ↦
      let whole : u ++ x ≡ (a ++ b ∷ []) ++ y = e ∙ sym (append_assoc a (b ∷ []) y) in
      let l = longer (a ++ b ∷ []) u y x (sym whole) (omega (arith, length_push a b)) in
      none.none c m l.middle (subst (HeadText c m) l.first text)
  | inr less ↦
      let l = longer u a x (b ∷ y) e less in
      not_both laws c inside.cid m inside.number u l.middle inside.more text
      (subst (HeadText inside.cid inside.number) (ap (λ (t : List ℕ). t ++ inside.more) l.first ∙ append_assoc u l.middle inside.more) inside.text) inside.not_whole
]
