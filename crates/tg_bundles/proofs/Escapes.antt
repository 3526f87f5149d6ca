-- Escaped names and paths as texts: what they don't have, and that they differ.
use Rattle.std.proofs.Common.{All, Bool, List, [], ap, ap₂, append_assoc, append-nil, arith, cond, false, inl, inr, length, refl}
use Rattle.std.proofs.Common.{subst, sym, true, ℕ, ◌%◌, ◌+◌, ◌++◌, ◌/◌, ◌<◌, ◌∙◌, ◌∷◌, ◌≡◌, ◌≢◌, ◌≤◌}
use Rattle.std.proofs.lemmas.Bool.{cases_lt, cond-false, cond-true, false_from_ne_true, lt-ltb, le-ltb}
use Rattle.std.proofs.lemmas.List.{length-append}
use Rattle.std.proofs.lemmas.List.Elements.{All-append, All-cons, All-head, All-nil, All-same, All-tail}
use Rattle.std.proofs.lemmas.Slice.Eq.{bytes_eq-Decides}
use Rattle.std.specs.Fmt.{digit_glyph}
use Rattle.std.specs.List.{flat_map}
use Rattle.std.specs.Prelude.{bytes_eq}
use Rattle.tg_bundles.specs.Reading.{AreNames, EscapedDiffer, EscapedIsPlain, PathsDiffer}
use Rattle.tg_bundles.specs.Records.{joined_all, path_text}
use Rattle.tg_bytes.specs.Ascii.{line_feed, slash}
use Rattle.tg_model.specs.Texts.{escaped, escaped_byte, is_unreserved, joined}

-- ---- texts up to a mark

-- what stands before the first mark is the same, and so is what stands behind it
pub up_to_mark : (mark : ℕ) (a b u v : List ℕ) → All (λ c. c ≢ mark) a → All (λ c. c ≢ mark) b → a ++ mark ∷ u ≡ b ++ mark ∷ v → (a ≡ b) × (u ≡ v)
up_to_mark mark [] [] u v p q e = (refl, cc e)
up_to_mark mark [] (y ∷ b) u v p q e =
    let same : mark ≡ y = cc e in
    absurd (All-head (λ (c : ℕ). c ≢ mark) y b q (sym same))
up_to_mark mark (x ∷ a) [] u v p q e =
    let same : x ≡ mark = cc e in
    absurd (All-head (λ (c : ℕ). c ≢ mark) x a p same)
up_to_mark mark (x ∷ a) (y ∷ b) u v p q e =
    let same : x ≡ y = cc e in
    let rest : a ++ mark ∷ u ≡ b ++ mark ∷ v = cc e in
    let (first, behind) = up_to_mark mark a b u v (All-tail (λ (c : ℕ). c ≢ mark) x a p) (All-tail (λ (c : ℕ). c ≢ mark) y b q) rest in
    (ap₂ (λ (c : ℕ) (l : List ℕ). c ∷ l) same first, behind)

-- ---- one byte

glyph_low : (n : ℕ) → n < 10 → digit_glyph true n ≡ 48 + n
glyph_low n h = cond-true _ (48 + n) (55 + n) (lt-ltb n 10 h)

glyph_high : (n : ℕ) → 10 ≤ n → digit_glyph true n ≡ 55 + n
glyph_high n h = cond-false _ (48 + n) (55 + n) (le-ltb n 10 h)

glyph_from : (n : ℕ) → 48 ≤ digit_glyph true n
glyph_from n = elim (cases_lt n 10) [
  | inl low ↦ omega (arith, glyph_low n low)
  | inr high ↦ omega (arith, glyph_high n high)
]

glyph_same : (m n : ℕ) → digit_glyph true m ≡ digit_glyph true n → m ≡ n
glyph_same m n e = elim (cases_lt m 10) [
  | inl a ↦ elim (cases_lt n 10) [
    | inl b ↦ omega (arith, glyph_low m a, glyph_low n b, e)
    | inr b ↦ absurd (omega (arith, glyph_low m a, glyph_high n b, e, a, b))
  ]
  | inr a ↦ elim (cases_lt n 10) [
    | inl b ↦ absurd (omega (arith, glyph_high m a, glyph_low n b, e, a, b))
    | inr b ↦ omega (arith, glyph_high m a, glyph_high n b, e)
  ]
]

-- by whether the byte stands for itself
abbrev written : Bool → ℕ → List ℕ
written t b = cond t (b ∷ []) (37 ∷ digit_glyph true (b / 16) ∷ digit_glyph true (b % 16) ∷ [])

no_percent : (b : ℕ) → is_unreserved b ≡ true → b ≡ 37 → ⊥
no_percent b own e = let same : is_unreserved 37 ≡ true = subst (λ (n : ℕ). is_unreserved n ≡ true) e own in absurd cc

written_same : (s t : Bool) (a b : ℕ) (u v : List ℕ) → is_unreserved a ≡ s → is_unreserved b ≡ t → written s a ++ u ≡ written t b ++ v → (a ≡ b) × (u ≡ v)
written_same true true a b u v p q e = (cc e, cc e)
written_same true false a b u v p q e = absurd (no_percent a p (cc e))
written_same false true a b u v p q e = let same : 37 ≡ b = cc e in absurd (no_percent b q (sym same))
written_same false false a b u v p q e =
    let high : digit_glyph true (a / 16) ≡ digit_glyph true (b / 16) = cc e in
    let low : digit_glyph true (a % 16) ≡ digit_glyph true (b % 16) = cc e in
    let rest : u ≡ v = cc e in
    (omega (arith, glyph_same (a / 16) (b / 16) high, glyph_same (a % 16) (b % 16) low), rest)

byte_same : (a b : ℕ) (u v : List ℕ) → escaped_byte a ++ u ≡ escaped_byte b ++ v → (a ≡ b) × (u ≡ v)
byte_same a b u v e = written_same (is_unreserved a) (is_unreserved b) a b u v refl refl e

written_some : (t : Bool) (b : ℕ) → 0 < length (written t b)
written_some true b = omega arith
written_some false b = omega arith

-- a mark below `0` that doesn't stand for itself, and isn't `%`, isn't in what a byte is escaped as
module _ (mark : ℕ) (none : is_unreserved mark ≡ false) (other : 37 ≢ mark) (low : mark < 48) where
  abbrev IsOther : ℕ → Type 0
  IsOther c = c ≢ mark

  glyph_other : (n : ℕ) → digit_glyph true n ≢ mark
  glyph_other n e = omega (arith, glyph_from n, e, low)

  own_other : (b : ℕ) → is_unreserved b ≡ true → b ≢ mark
  own_other b own e = let same : is_unreserved mark ≡ true = subst (λ (n : ℕ). is_unreserved n ≡ true) e own in absurd cc

  written_without : (t : Bool) (b : ℕ) → is_unreserved b ≡ t → All IsOther (written t b)
  written_without true b p = All-cons IsOther b [] (own_other b p) (All-nil IsOther)
  written_without false b p =
      All-cons IsOther 37 (digit_glyph true (b / 16) ∷ digit_glyph true (b % 16) ∷ []) other
      (All-cons IsOther (digit_glyph true (b / 16)) (digit_glyph true (b % 16) ∷ []) (glyph_other (b / 16))
      (All-cons IsOther (digit_glyph true (b % 16)) [] (glyph_other (b % 16)) (All-nil IsOther)))

  pub escaped_without : (name : List ℕ) → All IsOther (escaped name)
  escaped_without [] = All-nil IsOther
  escaped_without (b ∷ name) = All-append IsOther (escaped_byte b) (escaped name) (written_without (is_unreserved b) b refl) (escaped_without name)

-- ---- names

no_escape : (b : ℕ) (u : List ℕ) → [] ≡ escaped_byte b ++ u → ⊥
no_escape b u e =
    let some : 0 < length (escaped_byte b) = written_some (is_unreserved b) b in
    omega (arith, ap length e, length-append (escaped_byte b) u, some)

pub escaped_differ : EscapedDiffer
escaped_differ [] [] e = refl
escaped_differ [] (y ∷ b) e = absurd (no_escape y (escaped b) e)
escaped_differ (x ∷ a) [] e = absurd (no_escape x (escaped a) (sym e))
escaped_differ (x ∷ a) (y ∷ b) e =
    let (same, rest) = byte_same x y (escaped a) (escaped b) e in
    ap₂ (λ (c : ℕ) (l : List ℕ). c ∷ l) same (escaped_differ a b rest)

no_slash : (name : List ℕ) → All (λ b. b ≢ slash) (escaped name)
no_slash name = escaped_without slash refl (λ e. omega (arith, e)) (omega arith) name

no_feed : (name : List ℕ) → All (λ b. b ≢ line_feed) (escaped name)
no_feed name = escaped_without line_feed refl (λ e. omega (arith, e)) (omega arith) name

pub escaped_is_plain : EscapedIsPlain
escaped_is_plain name = record { no_slash = no_slash name; no_line_feed = no_feed name }

escaped_some : (name : List ℕ) → name ≢ [] → 0 < length (escaped name)
escaped_some [] some = absurd (some refl)
escaped_some (b ∷ name) some =
    let one : 0 < length (escaped_byte b) = written_some (is_unreserved b) b in
    omega (arith, length-append (escaped_byte b) (escaped name), one)

-- ---- paths

-- a slash before each name
abbrev below : List (List ℕ) → List ℕ
below names = flat_map (λ name. slash ∷ escaped name) names

joined_is : (path name : List ℕ) → 1 < length path → joined path name ≡ path ++ slash ∷ escaped name
joined_is path name long =
    let other : bytes_eq path (slash ∷ []) ≡ false =
    false_from_ne_true (bytes_eq path (slash ∷ [])) (λ t. omega (arith, long, ap length ((bytes_eq-Decides path (slash ∷ [])).0 t)))
    in
    ap (λ (l : List ℕ). l ++ escaped name) (cond-false (bytes_eq path (slash ∷ [])) path (path ++ slash ∷ []) other)
    ∙ append_assoc path (slash ∷ []) (escaped name)

all_joined : (path : List ℕ) (names : List (List ℕ)) → 1 < length path → joined_all path names ≡ path ++ below names
all_joined path [] long = sym (append-nil path)
all_joined path (name ∷ names) long =
    let next = path ++ slash ∷ escaped name in
    let longer : 1 < length next = omega (arith, long, length-append path (slash ∷ escaped name)) in
    ap (λ (p : List ℕ). joined_all p names) (joined_is path name long)
    ∙ (all_joined next names longer ∙ append_assoc path (slash ∷ escaped name) (below names))

-- the text of a path that has names
named_text : (name : List ℕ) (names : List (List ℕ)) → AreNames (name ∷ names) → path_text (name ∷ names) ≡ below (name ∷ names)
named_text name names are =
    let some : 0 < length (escaped name) = escaped_some name (All-head (λ (n : List ℕ). n ≢ []) name names are) in
    all_joined (slash ∷ escaped name) names (omega (arith, some))

-- the names, a slash behind each
abbrev ended : List (List ℕ) → List ℕ
ended [] = []
ended (name ∷ names) = escaped name ++ slash ∷ ended names

below_ended : (names : List (List ℕ)) → below names ++ slash ∷ [] ≡ slash ∷ ended names
below_ended [] = refl
below_ended (name ∷ names) =
    append_assoc (slash ∷ escaped name) (below names) (slash ∷ [])
    ∙ ap (λ (l : List ℕ). slash ∷ (escaped name ++ l)) (below_ended names)

no_ended : (name : List ℕ) (u : List ℕ) → [] ≡ escaped name ++ slash ∷ u → ⊥
no_ended name u e = omega (arith, ap length e, length-append (escaped name) (slash ∷ u))

ended_same : (a b : List (List ℕ)) → ended a ≡ ended b → a ≡ b
ended_same [] [] e = refl
ended_same [] (y ∷ b) e = absurd (no_ended y (ended b) e)
ended_same (x ∷ a) [] e = absurd (no_ended x (ended a) (sym e))
ended_same (x ∷ a) (y ∷ b) e =
    let (same, rest) = up_to_mark slash (escaped x) (escaped y) (ended a) (ended b) (no_slash x) (no_slash y) e in
    ap₂ (λ (n : List ℕ) (l : List (List ℕ)). n ∷ l) (escaped_differ x y same) (ended_same a b rest)

below_same : (a b : List (List ℕ)) → below a ≡ below b → a ≡ b
below_same a b e =
    let both : slash ∷ ended a ≡ slash ∷ ended b = sym (below_ended a) ∙ (ap (λ (l : List ℕ). l ++ slash ∷ []) e ∙ below_ended b) in
    ended_same a b (cc both)

no_top : (name : List ℕ) (names : List (List ℕ)) → AreNames (name ∷ names) → slash ∷ [] ≡ path_text (name ∷ names) → ⊥
no_top name names are e =
    let some : 0 < length (escaped name) = escaped_some name (All-head (λ (n : List ℕ). n ≢ []) name names are) in
    let same : slash ∷ [] ≡ (slash ∷ escaped name) ++ below names = e ∙ named_text name names are in
    omega (arith, ap length same, length-append (slash ∷ escaped name) (below names), some)

pub paths_differ : PathsDiffer
paths_differ [] [] p q e = refl
paths_differ [] (y ∷ b) p q e = absurd (no_top y b q e)
paths_differ (x ∷ a) [] p q e = absurd (no_top x a p (sym e))
paths_differ (x ∷ a) (y ∷ b) p q e = below_same (x ∷ a) (y ∷ b) (sym (named_text x a p) ∙ (e ∙ named_text y b q))

-- a path's text is within one line
below_line : (names : List (List ℕ)) → All (λ b. b ≢ line_feed) (below names)
below_line [] = All-nil (λ (b : ℕ). b ≢ line_feed)
below_line (name ∷ names) =
    All-append (λ (b : ℕ). b ≢ line_feed) (slash ∷ escaped name) (below names)
    (All-cons (λ (b : ℕ). b ≢ line_feed) slash (escaped name) (λ e. omega (arith, e)) (no_feed name)) (below_line names)

pub path_line : (path : List (List ℕ)) → AreNames path → All (λ b. b ≢ line_feed) (path_text path)
path_line [] are = All-cons (λ (b : ℕ). b ≢ line_feed) slash [] (λ e. omega (arith, e)) (All-nil (λ (b : ℕ). b ≢ line_feed))
path_line (name ∷ names) are =
    All-same (λ (b : ℕ). b ≢ line_feed) (path_text (name ∷ names)) (below (name ∷ names)) (named_text name names are) (below_line (name ∷ names))
