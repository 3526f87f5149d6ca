-- What bytes at the front of a section are, by their length and what is behind it.
use Rattle.std.proofs.Common.{◌≡◌, ℕ, ◌+◌, ◌-◌, ◌<◌, ◌≤◌, List, [], ◌∷◌, ◌++◌, length, All, refl, ap, sym, ◌∙◌, subst, arith}
use Rattle.std.proofs.lemmas.List.{append_assoc, append-nil, append_cancel_left, length-append, nil_from_length}
use Rattle.std.proofs.lemmas.List.Elements.{All-cons, All-append, All-nil}
use Rattle.tg_car.specs.TextLaws.{TextLaws}
use Rattle.tg_varint.specs.Varint.{VarintSpelling, number_of, EndsInside, PassesNine, EndsInZero}
use Rattle.tg_varint.specs.Laws.{Begins}
use Rattle.tg_varint.specs.Laws.VarintFront.{spelled, too_long, not_shortest}
use Rattle.tg_cid.specs.Cid.{CidParts}
use Rattle.tg_cid.specs.Fewest.{IsFewest, IsNoName}
use Rattle.tg_cid.specs.Spelling.{CidBytes}
use Rattle.tg_varint.specs.Computed.{varint}
use Rattle.tg_car.specs.Heads.{HeadText, IsInHead, IsNoHead}
use Rattle.tg_car.proofs.Lengths.{from_last}

-- the CID behind a length
name_behind : TextLaws → (c : CidParts) (n size : ℕ) (spelling name more : List ℕ) → VarintSpelling size spelling → HeadText c n ((spelling ++ name) ++ more)
    → CidBytes c (name ++ more) × (length (name ++ more) + n ≡ size)
name_behind laws c n size spelling name more v h =
    let whole : h.size ++ h.name ≡ spelling ++ (name ++ more) = sym h.whole ∙ append_assoc spelling name more in
    let one = laws.varints.no_front (length h.name + n) size h.size spelling h.name (name ++ more) h.size_is v whole in
    let names : h.name ≡ name ++ more =
    append_cancel_left spelling h.name (name ++ more) (ap (λ (l : List ℕ). l ++ h.name) (sym one.0) ∙ whole) in (
      subst (CidBytes c) names h.name_is,
      ap (λ (l : List ℕ). length l + n) (sym names) ∙ one.1,
    )

pub no_name : TextLaws → (size : ℕ) (spelling name : List ℕ) → VarintSpelling size spelling → IsNoName name → IsNoHead (spelling ++ name)
no_name laws size spelling name v none = record { none = λ c n more h. none.none c more (name_behind laws c n size spelling name more v h).0 }

pub too_few : TextLaws → (size : ℕ) (spelling name : List ℕ) (count : ℕ) → VarintSpelling size spelling → IsFewest name count → size < count
    → IsNoHead (spelling ++ name)
too_few laws size spelling name count v f less = record {
  none = λ c n more h.
      let b = name_behind laws c n size spelling name more v h in
      let low : count ≤ length (name ++ more) = f.fewest c more b.0 in
      let sum : length (name ++ more) + n ≡ size = b.1 in
      omega arith;
}

pub open_name : (size : ℕ) (spelling name : List ℕ) (count : ℕ) → VarintSpelling size spelling → IsFewest name count → count ≤ size
    → length name < count → IsInHead (spelling ++ name)
open_name size spelling name count v f enough fewer =
    let count_is : count ≡ length (name ++ f.more) = f.count_is in
    let sum : size ≡ length (name ++ f.more) + (size - count) = omega arith in
    record {
      cid = f.cid;
      number = size - count;
      more = f.more;
      not_whole = omega (arith, length-append name f.more);
      text = record {
        size = spelling;
        name = name ++ f.more;
        whole = append_assoc spelling name f.more;
        size_is = subst (λ (n : ℕ). VarintSpelling n spelling) sum v;
        name_is = f.begins;
      };
    }

pub whole_name : (size : ℕ) (spelling name : List ℕ) (count : ℕ) (c : CidParts) → VarintSpelling size spelling → IsFewest name count
    → count ≤ size → count ≤ length name → CidBytes c name → HeadText c (size - count) (spelling ++ name)
whole_name size spelling name count c v f enough past h =
    let count_is : count ≡ length (name ++ f.more) = f.count_is in
    let sum : size ≡ length name + (size - count) = omega (arith, length-append name f.more) in
    record {
      size = spelling;
      name = name;
      whole = refl;
      size_is = subst (λ (n : ℕ). VarintSpelling n spelling) sum v;
      name_is = h;
    }

-- as many bytes as the fewest of a CID are one
pub broken_name : (size : ℕ) (spelling name : List ℕ) (count : ℕ) → IsFewest name count → count ≤ length name
    → ((c : CidParts) → CidBytes c name → ⊥) → IsNoHead (spelling ++ name)
broken_name size spelling name count f past none =
    let count_is : count ≡ length (name ++ f.more) = f.count_is in
    let no_more : f.more ≡ [] = nil_from_length f.more (omega (arith, length-append name f.more)) in
    absurd (none f.cid (subst (CidBytes f.cid) (ap (λ (l : List ℕ). name ++ l) no_more ∙ append-nil name) f.begins))

-- a section of a length that ends so, which has room for a CID
ends_so : TextLaws → (bytes more : List ℕ) (n : ℕ) → VarintSpelling (133 + n) (bytes ++ more) → IsInHead bytes
ends_so laws bytes more n v =
    let (cid, name, is) = laws.lengths.one in
    let some : 0 < length name = laws.lengths.some cid name is in
    let most : length name ≤ 133 = laws.lengths.most cid name is in
    let sum : 133 + n ≡ length name + ((133 + n) - length name) = omega arith in
    record {
      cid = cid;
      number = (133 + n) - length name;
      more = more ++ name;
      not_whole = omega (arith, length-append more name);
      text = record {
        size = bytes ++ more;
        name = name;
        whole = sym (append_assoc bytes more name);
        size_is = subst (λ (m : ℕ). VarintSpelling m (bytes ++ more)) sum v;
        name_is = is;
      };
    }

pub short_size : TextLaws → (bytes : List ℕ) → EndsInside bytes → All (λ b. b < 256) bytes → IsInHead bytes
short_size laws [] inside bytes = ends_so laws [] (varint 133) 0 (laws.varints.computed 133 (omega arith))
short_size laws (b ∷ rest) inside bytes =
    let more : 2 ≤ number_of (rest ++ 2 ∷ []) = from_last rest 2 (omega arith) in
    let number = number_of (b ∷ rest ++ 2 ∷ []) in
    let above : 133 ≤ number_of (b ∷ rest ++ 2 ∷ []) = omega arith in
    let number_is : VarintSpelling (133 + (number - 133)) (b ∷ rest ++ 2 ∷ []) = record {
      front = b ∷ rest;
      last = 2;
      whole = refl;
      are_bytes = All-append (λ (x : ℕ). x < 256) (b ∷ rest) (2 ∷ []) bytes (All-cons (λ (x : ℕ). x < 256) 2 [] (omega arith) (All-nil (λ (x : ℕ). x < 256)));
      goes_on = inside.goes_on;
      ends = omega arith;
      shortest = λ some. omega arith;
      at_most = inside.fewer;
      spells = omega arith;
    } in
    ends_so laws (b ∷ rest) (2 ∷ []) (number - 133) number_is

pub long_size : TextLaws → (bytes : List ℕ) → PassesNine bytes → IsNoHead bytes
long_size laws bytes p = record {
  none = λ c n more h.
      let past : Begins (bytes ++ more) too_long = laws.varints.kept bytes more too_long p (λ e. absurd cc) in
      let same : spelled (length h.name + n) h.size ≡ too_long =
      laws.varints.one_front (bytes ++ more) (spelled (length h.name + n) h.size) too_long (h.name, h.whole, h.size_is) past in
      absurd cc;
}

pub zero_size : TextLaws → (bytes : List ℕ) → EndsInZero bytes → IsNoHead bytes
zero_size laws bytes z = record {
  none = λ c n more h.
      let ends : Begins (bytes ++ more) not_shortest = laws.varints.kept bytes more not_shortest z (λ e. absurd cc) in
      let same : spelled (length h.name + n) h.size ≡ not_shortest =
      laws.varints.one_front (bytes ++ more) (spelled (length h.name + n) h.size) not_shortest (h.name, h.whole, h.size_is) ends in
      absurd cc;
}

pub nothing_in_head : TextLaws → (bytes : List ℕ) → bytes ≡ [] → IsInHead bytes
nothing_in_head laws bytes e =
    subst IsInHead (sym e) (short_size laws [] (record { goes_on = All-nil (λ (b : ℕ). 128 ≤ b); fewer = omega arith }) (All-nil (λ (b : ℕ). b < 256)))
