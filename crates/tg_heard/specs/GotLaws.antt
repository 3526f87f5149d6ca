-- Laws of the sections received so far.
use Rattle.std.specs.Prelude.{All, Bool, List, [], false, length, ℕ, ◌++◌, ◌≡◌, ◌≤◌}
use Rattle.tg_body.specs.Bodies.{BodyFront, BodyText}
use Rattle.tg_heard.specs.Carried.{Carries, CarriesAbsence}
use Rattle.tg_heard.specs.Got.{HasGot}
use Rattle.tg_http.specs.declared.framing.Framing.{Framing}
use Rattle.tg_http.specs.declared.framing.Framing.TheVariants as framings
use Rattle.tg_model.specs.Dag.{Section}
use Rattle.tg_model.specs.Queries.{QueryParts}

-- they are one list
abbrev pub OneGot : Type 0
OneGot = (limit : ℕ) (heard : List ℕ) (ended : Bool) (q : QueryParts) (sections other : List Section) → HasGot limit heard ended q sections
    → HasGot limit heard ended q other → sections ≡ other

-- of a front of the bytes, while the link had not ended, a front of them
abbrev pub GotFronts : Type 0
GotFronts = (limit : ℕ) (heard more : List ℕ) (ended : Bool) (q : QueryParts) (some sections : List Section) → HasGot limit heard false q some
    → HasGot limit (heard ++ more) ended q sections → (rest : List Section) × (sections ≡ some ++ rest)

-- a reply that carries sections, none of whose blocks is above the limit: they are received
abbrev pub CarriedIsGot : Type 0
CarriedIsGot = (limit : ℕ) (heard : List ℕ) (ended : Bool) (q : QueryParts) (sections : List Section)
    → All (λ section. length section.block ≤ limit) sections
    → (Carries heard ended q sections → HasGot limit heard ended q sections) × (CarriesAbsence heard ended q sections → HasGot limit heard ended q sections)

-- what came of a body is a front of the whole one that stands at the front of the bytes, or is all of them where it goes on
-- until the link closes
abbrev pub BodyFronts : Type 0
BodyFronts = (framing : Framing) (given body came whole more behind : List ℕ) → BodyFront framing given came → BodyText framing body whole
    → came ++ more ≡ whole ++ behind → (framing ≡ framings.UntilClose → behind ≡ []) → (rest : List ℕ) × (body ≡ given ++ rest)
