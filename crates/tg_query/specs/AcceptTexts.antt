-- What `Accept` fields say (RFC 9110, sections 5.6.6, 8.3.1 and 12.5.1; Trustless Gateway specification, response
-- types): media ranges with commas between them, each a type and, with a semicolon before each, its parameters. Spaces
-- and tabs around a type and around a parameter don't count; types and names of parameters are compared without regard
-- to case. Two types are served, and the others, a wildcard too, ask for nothing. A comma and a semicolon cut wherever
-- they stand, in quotes too (this project's own profile).
use Rattle.httparse.specs.Grammar.{trim_ows}
use Rattle.std.specs.Option.{unwrap_or}
use Rattle.std.specs.Prelude.{All, List, None, Option, Some, codes, true, ℕ, ◌++◌, ◌∷◌, ◌≡◌}
use Rattle.std.specs.Str.{str_eq_ignore_ascii_case}
use Rattle.tg_model.specs.declared.queries.Form.{Form}
use Rattle.tg_model.specs.declared.queries.Form.TheVariants.{Car, Raw}
use Rattle.tg_query.specs.Cuts.{IsCut}
use Rattle.tg_query.specs.Accepts.{car_type, params_in, ranges_of, raw_type}
use Rattle.tg_query.specs.Targets.{or_empty}
use Rattle.tg_query.specs.declared.accepts.Accepted.{Accepted}
use Rattle.tg_query.specs.declared.accepts.CarChoice.{CarChoice}

-- the element says nothing; the first that says something says this; and the first says this, or none says anything
abbrev pub SaysNothing : {X A : Type 0} → (A → X → Type 0) → X → Type 0
SaysNothing {X} {A} Says x = (a : A) → Says a x → ⊥

pub record FirstSays {X A : Type 0} (Says : A → X → Type 0) (xs : List X) (a : A) : Type 0 where
  pub before : List X
  pub first : X
  pub after : List X
  pub whole : xs ≡ before ++ first ∷ after
  pub others : All (SaysNothing Says) before
  pub says : Says a first

abbrev pub FirstSaid : {X A : Type 0} → (A → X → Type 0) → List X → Option A → Type 0
FirstSaid Says xs None = All (SaysNothing Says) xs
FirstSaid Says xs (Some a) = FirstSays Says xs a

-- the type that a format has
abbrev pub type_of : Form → List ℕ
type_of Raw = raw_type
type_of Car = car_type

-- a media range of a format's type, with what stands behind its first semicolon
pub record RangeText (form : Form) (params : Option (List ℕ)) (range : List ℕ) : Type 0 where
  pub type : List ℕ
  pub cut : IsCut 59 range type params
  pub type_is : str_eq_ignore_ascii_case (trim_ows type) (type_of form) ≡ true

abbrev pub AsksFor : Form → List ℕ → Type 0
AsksFor form range = (params : Option (List ℕ)) × RangeText form params range

-- a parameter of this name and its value, which is empty where no `=` stands
pub record ParamText (name value param : List ℕ) : Type 0 where
  pub written : List ℕ
  pub given : Option (List ℕ)
  pub cut : IsCut 61 (trim_ows param) written given
  pub name_is : str_eq_ignore_ascii_case written name ≡ true
  pub value_is : value ≡ or_empty given

-- the value of the first parameter of this name, or the default
abbrev pub ParamOr : List ℕ → List ℕ → List (List ℕ) → List ℕ → Type 0
ParamOr name default params value =
    (asked : Option (List ℕ)) × FirstSaid (ParamText name) params asked × (value ≡ unwrap_or asked default)

-- a media range that asks for a CAR with these parameters
pub record CarText (choice : CarChoice) (range : List ℕ) : Type 0 where
  pub params : Option (List ℕ)
  pub is_car : RangeText Car params range
  pub version : ParamOr (codes "version") (codes "1") (params_in params) choice.version
  pub order : ParamOr (codes "order") (codes "dfs") (params_in params) choice.order
  pub dups : ParamOr (codes "dups") (codes "y") (params_in params) choice.dups

-- the first format that the fields ask for, and the first CAR; each may be none
pub record AcceptText (values : List (List ℕ)) (accepted : Accepted) : Type 0 where
  pub first : FirstSaid AsksFor (ranges_of values) accepted.first
  pub car : FirstSaid CarText (ranges_of values) accepted.car
