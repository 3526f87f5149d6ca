-- The query that a target and `Accept` ask for together (Trustless Gateway specification).
use Rattle.std.specs.Option.{unwrap_or}
use Rattle.std.specs.Prelude.{Bool, Err, List, None, Ok, Option, Result, Some, [], bytes_eq, codes, if◌then◌else◌}
use Rattle.std.specs.Prelude.{length, true, ℕ, ◌&&◌, ◌==◌, ◌||◌}
use Rattle.tg_model.specs.Queries.{QueryParts, SpanParts}
use Rattle.tg_model.specs.declared.queries.Form.{Form}
use Rattle.tg_model.specs.declared.queries.Form.TheVariants as forms
use Rattle.tg_model.specs.declared.queries.Scope.{Scope}
use Rattle.tg_model.specs.declared.queries.Scope.TheVariants as scopes
use Rattle.tg_query.specs.declared.fault.QueryFault.{QueryFault}
use Rattle.tg_query.specs.declared.fault.QueryFault.TheVariants.{BadParam, NoFormat, RawPath}
use Rattle.tg_query.specs.declared.accepts.Accepted.{Accepted}
use Rattle.tg_query.specs.declared.accepts.CarChoice.{CarChoice}
use Rattle.tg_query.specs.declared.targets.Target.{Target}

-- a CAR is of version 1, in order dfs or in any order, with or without repeats
abbrev pub is_either : List ℕ → List ℕ → List ℕ → Bool
is_either word first second = bytes_eq word first || bytes_eq word second

abbrev pub is_served : CarChoice → Bool
is_served choice =
    bytes_eq choice.version (codes "1") && is_either choice.order (codes "dfs") (codes "unk") && is_either choice.dups (codes "y") (codes "n")

-- the choice where no CAR type is accepted
abbrev pub default_choice : CarChoice
default_choice = record { version = codes "1"; order = codes "dfs"; dups = codes "y" }

abbrev pub raw_query : Target → QueryParts
raw_query target =
    record { root = target.root; path = []; form = forms.Raw; scope = scopes.Block; span = None; dups = true }

-- a range asks for the entity; without a scope all is asked
abbrev pub scope_for : Option Scope → Option SpanParts → Scope
scope_for scope (Some span) = scopes.Entity
scope_for scope None = unwrap_or scope scopes.All

abbrev pub car_query : Target → Bool → QueryParts
car_query target dups = record {
  root = target.root;
  path = target.path;
  form = forms.Car;
  scope = scope_for target.scope target.span;
  span = target.span;
  dups = dups;
}

-- of a raw block scope and range are dropped, and behind a path there is none
abbrev pub raw_or_fault : Target → Result QueryParts QueryFault
raw_or_fault target = if length target.path == 0 then Ok (raw_query target) else Err RawPath

abbrev pub dups_of : CarChoice → Option Bool
dups_of choice = if is_served choice then Some (bytes_eq choice.dups (codes "y")) else None

abbrev pub car_with : Target → Option Bool → Result QueryParts QueryFault
car_with target None = Err BadParam
car_with target (Some dups) = Ok (car_query target dups)

abbrev pub car_or_fault : Target → CarChoice → Result QueryParts QueryFault
car_or_fault target choice = car_with target (dups_of choice)

-- the format of the target decides, else the first known type
abbrev pub format_for : Option Form → Option Form → Option Form
format_for (Some form) first = Some form
format_for None first = first

abbrev pub join_by : Option Form → Target → Option CarChoice → Result QueryParts QueryFault
join_by None target car = Err NoFormat
join_by (Some forms.Raw) target car = raw_or_fault target
join_by (Some forms.Car) target car = car_or_fault target (unwrap_or car default_choice)

abbrev pub join_of : Target → Accepted → Result QueryParts QueryFault
join_of target accepted = join_by (format_for target.format accepted.first) target accepted.car
