-- What is bounded of a DAG: its levels, its blocks, its links and the text of its bundle.
use Rattle.sha2.proofs.Facts256.{length-sha256}
use Rattle.std.proofs.Common.{All, Bool, List, [], ap, arith, false, length, length-append, refl, suc, true, zero, ℕ, ◌*◌, ◌+◌, ◌++◌, ◌∙◌, ◌∷◌, ◌≡◌, ◌≤◌}
use Rattle.std.proofs.lemmas.Bool.Decides.{nat_tests}
use Rattle.std.proofs.lemmas.List.Elements.{All-append, All-cons, All-head, All-nil, All-tail}
use Rattle.std.proofs.lemmas.List.Sums.{count_by-le-length, length-filter, sum_by-cons}
use Rattle.std.specs.Fmt.{digit_glyph}
use Rattle.std.specs.Prelude.{bytes_eq, if◌then◌else◌, map, nat_lt, ⊤, ◌%◌, ◌/◌, ◌==◌, ◌^◌}
use Rattle.tg_audit.proofs.BlockSizes.{all_left, all_right}
use Rattle.tg_audit.proofs.FileSizes.{IsAt}
use Rattle.tg_audit.proofs.WithinReplies.{IsPlainDigest, room_of}
use Rattle.tg_audit.proofs.WithinWeights.{weight}
use Rattle.tg_bytes.specs.Ascii.{slash}
use Rattle.tg_cid.specs.Cid.{CidParts}
use Rattle.tg_cid.specs.Computed.{v1_bytes}
use Rattle.tg_cid.specs.Names.{IsDigestOf}
use Rattle.tg_cid.specs.declared.cid.HashKind.{HashKind}
use Rattle.tg_cid.specs.declared.cid.HashKind.TheVariants.{Sha256}
use Rattle.tg_model.specs.Answer.{bundle}
use Rattle.tg_model.specs.Content.{DirEntry}
use Rattle.tg_model.specs.Dag.{AreWhole, Children, Dag, IsWhole, Section, bare, blocks, blocks_of_children, no_child, node, root_cid, unopened, with_child}
use Rattle.tg_model.specs.ImportLayout.{HasPlainCid, weight_of}
use Rattle.tg_model.specs.Reading.{below, big_endian, used_slots}
use Rattle.tg_model.specs.Sound.{AreCheckedAt, IsCheckedAt, Position, positions}
use Rattle.tg_model.specs.Texts.{escaped, escaped_byte, is_unreserved, joined}
use Rattle.tg_model_laws.specs.Depths.{children_down_to, down_to}

-- ---- levels

-- so many levels of nodes at most
abbrev mutual
  pub IsLow : ℕ → Dag → Type 0
  IsLow zero d = ⊥
  IsLow (suc k) (unopened cid) = ⊤
  IsLow (suc k) (bare section fault) = ⊤
  IsLow (suc k) (node section kind children) = AreLow k children

  pub AreLow : ℕ → Children → Type 0
  AreLow k no_child = ⊤
  AreLow k (with_child d children) = IsLow k d × AreLow k children

mutual
  pub one_more : (k : ℕ) (d : Dag) → IsLow k d → IsLow (suc k) d
  one_more zero d h = absurd h
  one_more (suc k) (unopened cid) h = tt
  one_more (suc k) (bare section fault) h = tt
  one_more (suc k) (node section kind children) h = more_each k children h

  more_each : (k : ℕ) (children : Children) → AreLow k children → AreLow (suc k) children
  more_each k no_child h = tt
  more_each k (with_child d children) h = (one_more k d h.0, more_each k children h.1)

-- nothing of it is cut off at as many levels
mutual
  pub cut_low : (most depth k : ℕ) (d : Dag) → depth + k ≤ most + 1 → IsLow k d → down_to most depth d ≡ d
  cut_low most depth zero d few h = absurd h
  cut_low most depth (suc k) (unopened cid) few h = refl
  cut_low most depth (suc k) (bare section fault) few h = by (nat_lt most depth) refl
    where
      by : (b : Bool) → nat_lt most depth ≡ b → (if b then unopened section.cid else bare section fault) ≡ bare section fault
      by true e = absurd (grind (arith, nat_tests, e, few))
      by false e = refl
  cut_low most depth (suc k) (node section kind children) few h = by (nat_lt most depth) refl (cut_each most (depth + 1) k children (omega (arith, few)) h)
    where
      by : (b : Bool) → nat_lt most depth ≡ b → children_down_to most (depth + 1) children ≡ children
          → (if b then unopened section.cid else node section kind (children_down_to most (depth + 1) children)) ≡ node section kind children
      by true e rest = absurd (grind (arith, nat_tests, e, few))
      by false e rest = ap (node section kind) rest

  cut_each : (most depth k : ℕ) (children : Children) → depth + k ≤ most + 1 → AreLow k children → children_down_to most depth children ≡ children
  cut_each most depth k no_child few h = refl
  cut_each most depth k (with_child d children) few h =
      ap (λ (x : Dag). with_child x (children_down_to most depth children)) (cut_low most depth k d few h.0)
      ∙ ap (with_child d) (cut_each most depth k children few h.1)

-- ---- CIDs

plain_cid : (hash : HashKind) (digest block : List ℕ) → hash ≡ Sha256 → IsDigestOf hash digest block → length digest ≡ 32
plain_cid Sha256 digest block is named = ap length named ∙ length-sha256 block
plain_cid _ digest block is named = absurd (cc is)

pub plain_root : (position : Position) (d : Dag) → IsAt position d → IsPlainDigest (root_cid d)
plain_root position (unopened cid) h = absurd h.whole
plain_root position (bare section fault) h = absurd h.whole
plain_root position (node section kind children) h =
    plain_cid section.cid.hash section.cid.digest section.block (All-head HasPlainCid section (blocks_of_children children) h.plain).1 h.checked.0.named

abbrev pub IsPlain : Section → Type 0
IsPlain section = IsPlainDigest section.cid

mutual
  pub plain_each : (position : Position) (d : Dag) → IsWhole d → IsCheckedAt position d → All HasPlainCid (blocks d) → All IsPlain (blocks d)
  plain_each position (unopened cid) whole checked plain = absurd whole
  plain_each position (bare section fault) whole checked plain = absurd whole
  plain_each position (node section kind children) whole checked plain =
      All-cons IsPlain section (blocks_of_children children)
      (plain_cid section.cid.hash section.cid.digest section.block (All-head HasPlainCid section (blocks_of_children children) plain).1 checked.0.named)
      (children_plain (positions position kind) children whole checked.1 (All-tail HasPlainCid section (blocks_of_children children) plain))

  children_plain : (places : List Position) (children : Children) → AreWhole children → AreCheckedAt places children → All HasPlainCid (blocks_of_children children)
      → All IsPlain (blocks_of_children children)
  children_plain places no_child whole checked plain = All-nil IsPlain
  children_plain [] (with_child d children) whole checked plain = absurd checked
  children_plain (place ∷ places) (with_child d children) whole checked plain =
      All-append IsPlain (blocks d) (blocks_of_children children)
      (plain_each place d whole.0 checked.0 (all_left HasPlainCid (blocks d) (blocks_of_children children) plain))
      (children_plain places children whole.1 checked.1 (all_right HasPlainCid (blocks d) (blocks_of_children children) plain))

-- ---- paths

pub escaped_few : (name : List ℕ) → length (escaped name) ≤ 3 * length name
escaped_few [] = omega arith
escaped_few (b ∷ name) =
    let here = one (is_unreserved b) in
    let rest = escaped_few name in
    let both = length-append (escaped_byte b) (escaped name) in
    omega (arith, here, rest, both)
  where
    one : (t : Bool) → length (if t then b ∷ [] else 37 ∷ digit_glyph true (b / 16) ∷ digit_glyph true (b % 16) ∷ []) ≤ 3
    one true = omega arith
    one false = omega arith

pub joined_few : (path name : List ℕ) → length name ≤ 7 → length (joined path name) ≤ length path + 22
joined_few path name short =
    let few = escaped_few name in
    let first = by (bytes_eq path (slash ∷ [])) in
    let both = length-append (if bytes_eq path (slash ∷ []) then path else path ++ slash ∷ []) (escaped name) in
    omega (arith, few, first, both, short)
  where
    by : (b : Bool) → length (if b then path else path ++ slash ∷ []) ≤ length path + 1
    by true = omega arith
    by false = let both = length-append path (slash ∷ []) in omega (arith, both)

-- ---- slots

below_length : (n : ℕ) → length (below n) ≡ n
below_length zero = refl
below_length (suc n) = let rest = below_length n in let both = length-append (below n) (n ∷ []) in omega (arith, rest, both)

pub few_used : (bits : List ℕ) → length (used_slots bits) ≤ 8 * length bits
few_used bits =
    let all = below_length (8 * length bits) in
    let test = λ (i : ℕ). (big_endian bits / 2 ^ i) % 2 == 1 in
    let passed = length-filter test (below (8 * length bits)) in
    let few = count_by-le-length test (below (8 * length bits)) in
    omega (arith, all, passed, few)

-- ---- what entries weigh

abbrev pub weighed : List DirEntry → ℕ
weighed [] = 0
weighed (e ∷ es) = length e.name + length (v1_bytes (root_cid e.dag)) + weighed es

pub weighed_is : (es : List DirEntry) → weight_of es ≡ weighed es
weighed_is [] = refl
weighed_is (e ∷ es) =
    let first = sum_by-cons (λ (n : ℕ). n) (length e.name + length (v1_bytes (root_cid e.dag)))
    (map (λ x. length x.name + length (v1_bytes (root_cid x.dag))) es) in
    let rest = weighed_is es in
    omega (arith, first, rest)

pub weighed_both : (a b : List DirEntry) → weighed (a ++ b) ≡ weighed a + weighed b
weighed_both [] b = omega arith
weighed_both (e ∷ a) b = let rest = weighed_both a b in omega (arith, rest)

pub weighed_least : (es : List DirEntry) → length es ≤ weighed es
weighed_least [] = omega arith
weighed_least (e ∷ es) = let rest = weighed_least es in omega (arith, rest)

-- ---- what is bounded

abbrev pub IsSmallBlock : Section → Type 0
IsSmallBlock section = length section.block ≤ 2097152

abbrev pub no_link : List ℕ → CidParts → ℕ
no_link name cid = 0

abbrev pub no_room : Section → ℕ
no_room section = 0

-- by what an entry weighs: its levels, its blocks with what is sent with each, its entries, and the text of its bundle behind a
-- path of so many bytes
pub record IsBound (v : List ℕ → CidParts → ℕ) (levels room links near lines : ℕ) (d : Dag) : Type 0 where
  pub low : IsLow levels d
  pub small : All IsSmallBlock (blocks d)
  pub rooms : weight room_of no_link d ≤ room
  pub met : weight no_room v d ≤ links
  pub text : (path : List ℕ) → length path ≤ near → length (bundle path d) ≤ lines
