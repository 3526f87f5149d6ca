-- Whether a media type is the one that a query's answer has (RFC 9110, section 8.3; Trustless Gateway specification,
-- response types and CAR parameters). A media type isn't cut at commas.
use Rattle.std.specs.Prelude.{Bool, List, Some, codes, ℕ, ◌≡◌}
use Rattle.tg_model.specs.Queries.{QueryParts}
use Rattle.tg_model.specs.declared.queries.Form.{Form}
use Rattle.tg_model.specs.declared.queries.Form.TheVariants as forms
use Rattle.tg_query.specs.AcceptTexts.{AsksFor, CarText}
use Rattle.tg_query.specs.Accepts.{choice_of, form_of_range}
use Rattle.tg_query.specs.Requests.{dups_word}

-- the type of a CAR of version 1, in order dfs, with repeats or without; an absent parameter counts as `1`, `dfs` or `y`
pub record IsCarType (repeats : Bool) (kind : List ℕ) : Type 0 where
  pub form : form_of_range kind ≡ Some forms.Car
  pub version : (choice_of kind).version ≡ codes "1"
  pub order : (choice_of kind).order ≡ codes "dfs"
  pub dups : (choice_of kind).dups ≡ dups_word repeats

-- the type of an answer in a form; of a raw block all parameters are passed over
abbrev pub HasType : Form → Bool → List ℕ → Type 0
HasType forms.Raw repeats kind = form_of_range kind ≡ Some forms.Raw
HasType forms.Car repeats kind = IsCarType repeats kind

-- the type of a query's answer
abbrev pub IsTypeOf : QueryParts → List ℕ → Type 0
IsTypeOf q kind = HasType q.form q.dups kind

-- the same in the words of the grammar
abbrev pub TypeText : Form → Bool → List ℕ → Type 0
TypeText forms.Raw repeats kind = AsksFor forms.Raw kind
TypeText forms.Car repeats kind =
    CarText (record { version = codes "1"; order = codes "dfs"; dups = dups_word repeats }) kind
