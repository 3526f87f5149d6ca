-- What an option gives is what its value gives, where each option stands at most once and has a value.
use Rattle.std.proofs.Common.{◌≡◌, ◌≢◌, ℕ, suc, zero, inl, inr, List, [], ◌∷◌, Option, Some, None, Bool, true, false, refl, sym, ap, ◌∙◌, subst, arith, true≢false, ap₂, cond}
use Rattle.std.specs.Prelude.{Contains, find, option_and_then, slice_get}
use Rattle.std.specs.Str.{bytes_eq}
use Rattle.std.proofs.lemmas.Slice.Eq.{bytes_eq-Decides}
use Rattle.tg_bytes.specs.Lists.{other_bytes, none_in}
use Rattle.tg_words.specs.Words.{Given, StandOnce, WordsSpelling, OptionGives}
use Rattle.tg_words.specs.Operands.{ValueGives, value_at}
use Rattle.tg_words.proofs.Known.{known}
use Rattle.tg_words.proofs.Naming.{first_or_later, at_first, later_too, bytes_same}

-- each option has a value
abbrev pub HaveValues : List Given → Type 0
HaveValues options = (o : Given) → Contains options o → o.1 ≢ None

rest_once : (o : Given) (options : List Given) → StandOnce (o ∷ options) → StandOnce options
rest_once o options once i j a b below at also = once (suc i) (suc j) a b (omega (arith, below)) at also

place_of : {X : Type 0} (xs : List X) (x : X) → Contains xs x → (k : ℕ) × (slice_get xs k ≡ Some x)
place_of [] x among = absurd (none_in x among)
place_of (y ∷ xs) x among = elim (first_or_later y x xs among) [
  | inl is ↦ (zero, ap Some is)
  | inr later ↦ let k = place_of xs x later in (suc k.0, k.1)
]

-- an option that stands is the first of its name
pub value_where : (options : List Given) (name text : List ℕ) → StandOnce options → Contains options (name, Some text) → value_at options name ≡ Some text
value_where [] name text once among = absurd (none_in (name, Some text) among)
value_where (o ∷ options) name text once among = elim (first_or_later o (name, Some text) options among) [
  | inl is ↦ subst (λ (p : Given). value_at (p ∷ options) name ≡ Some text) (sym is) (rw (bytes_same name) refl)
  | inr later ↦
      let k = place_of options (name, Some text) later in
      rw (other_bytes o.0 name (once zero (suc k.0) o (name, Some text) (omega arith) refl k.1)) (value_where options name text (rest_once o options once) later)
]

pub value_absent : (options : List Given) (name : List ℕ) → ((o : Given) → Contains options o → o.0 ≢ name) → value_at options name ≡ None
value_absent [] name none = refl
value_absent (o ∷ options) name none =
    rw (other_bytes o.0 name (none o (at_first o o options refl))) (value_absent options name (λ p among. none p (later_too o p options among)))

pub value_stands : (options : List Given) (name text : List ℕ) → value_at options name ≡ Some text → Contains options (name, Some text)
value_stands [] name text is = absurd (cc)
value_stands (o ∷ options) name text is = go (bytes_eq o.0 name) refl is (value_stands options name text)
  where
    go : (t : Bool) → bytes_eq o.0 name ≡ t → option_and_then (λ (p : Given). p.1) (cond t (Some o) (find (λ (p : Given). bytes_eq p.0 name) options)) ≡ Some text
        → (value_at options name ≡ Some text → Contains options (name, Some text)) → Contains (o ∷ options) (name, Some text)
    go true same here later = at_first o (name, Some text) options (ap₂ (λ n v. (n, v)) ((bytes_eq-Decides o.0 name).0 same) here)
    go false same here later = later_too o (name, Some text) options (later here)

pub none_stands : (options : List Given) (name : List ℕ) → HaveValues options → value_at options name ≡ None → (o : Given) → Contains options o → o.0 ≢ name
none_stands [] name have none o among = absurd (none_in o among)
none_stands (p ∷ options) name have none o among = go (bytes_eq p.0 name) refl none (none_stands options name (λ q within. have q (later_too p q options within)))
  where
    go : (t : Bool) → bytes_eq p.0 name ≡ t → option_and_then (λ (q : Given). q.1) (cond t (Some p) (find (λ (q : Given). bytes_eq q.0 name) options)) ≡ None
        → (value_at options name ≡ None → (q : Given) → Contains options q → q.0 ≢ name) → o.0 ≢ name
    go true same here later = absurd (have p (at_first p p options refl) here)
    go false same here later = elim (first_or_later p o options among) [
      | inl is ↦ subst (λ (q : Given). q.0 ≢ name) is (λ equal. true≢false (sym ((bytes_eq-Decides p.0 name).1 equal) ∙ same))
      | inr within ↦ later here o within
    ]

-- the same for what is written by the value
pub gives_value : {A : Type 0} (IsWritten : List ℕ → A → Type 0) (options : List Given) (name : List ℕ) (asked : Option A) → StandOnce options
    → OptionGives IsWritten options name asked → ValueGives IsWritten (value_at options name) asked
gives_value IsWritten options name None once gives = rw (value_absent options name gives) refl
gives_value IsWritten options name (Some x) once gives = rw (value_where options name gives.0 once gives.1) gives.2

pub value_gives : {A : Type 0} (IsWritten : List ℕ → A → Type 0) (options : List Given) (name : List ℕ) (asked : Option A) → HaveValues options
    → ValueGives IsWritten (value_at options name) asked → OptionGives IsWritten options name asked
value_gives {A = A} IsWritten options name asked have gives = go (value_at options name) refl asked gives
  where
    go : (value : Option (List ℕ)) → value_at options name ≡ value → (x : Option A) → ValueGives IsWritten value x → OptionGives IsWritten options name x
    go None is None given = none_stands options name have is
    go None is (Some x) given = absurd (cc)
    go (Some text) is None given = absurd given
    go (Some text) is (Some x) given = (text, value_stands options name text is, given)

-- what a value gives is one
pub one_given : {A : Type 0} (IsWritten : List ℕ → A → Type 0) → ((text : List ℕ) (x y : A) → IsWritten text x → IsWritten text y → x ≡ y)
    → (value : Option (List ℕ)) (a b : Option A) → ValueGives IsWritten value a → ValueGives IsWritten value b → a ≡ b
one_given IsWritten one None a b p q = p ∙ sym q
one_given IsWritten one (Some text) None b p q = absurd p
one_given IsWritten one (Some text) (Some x) None p q = absurd q
one_given IsWritten one (Some text) (Some x) (Some y) p q = ap Some (one text x y p q)

-- the options of words whose command has no options without a value
pub have_values : (valued : List (List ℕ)) (words texts : List (List ℕ)) (options : List Given)
    → WordsSpelling (record { valued = valued; flags = [] }) words texts options → HaveValues options
have_values valued words texts options spelling (name, Some value) among is = absurd (cc)
have_values valued words texts options spelling (name, None) among is =
    none_in name (known (record { valued = valued; flags = [] }) words texts options spelling (name, None) among)
