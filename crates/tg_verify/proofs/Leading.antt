-- What the path leads to, from block to block.
use Rattle.std.proofs.Common.{[], Bool, List, None, Ok, Option, Some, ap, append-nil, append_assoc, false, inl, inr, length, not, refl, subst, suc, sym, true, zero, ℕ, ◌+◌, ◌++◌, ◌∙◌, ◌∷◌, ◌≡◌, ◌⊎◌}
use Rattle.std.specs.Prelude.{IfSome}
use Rattle.tg_cid.specs.Cid.{CidParts}
use Rattle.tg_model.specs.Computed.{read}
use Rattle.tg_model.specs.Dag.{Section, links_of}
use Rattle.tg_model.specs.Fits.{is_block}
use Rattle.tg_model.specs.LimitNumbers.{LimitNumbers}
use Rattle.tg_model.specs.PathWalk.{StepTo, absent, not_folder_here, step_of, to_child, to_entry}
use Rattle.tg_model.specs.Queries.{QueryParts}
use Rattle.tg_model.specs.Sound.{passed}
use Rattle.tg_model.specs.declared.kinds.Kind.{Kind}
use Rattle.tg_model.specs.declared.queries.Scope.{Scope}
use Rattle.tg_model.specs.declared.queries.Scope.TheVariants as scopes
use Rattle.tg_model_laws.specs.SentSections.{taken_as, taken_if}
use Rattle.tg_model_laws.specs.Stages.{Given, nothing_given, place_of, up_to_next, with_place}
use Rattle.tg_model_laws.specs.TakenBlocks.{IsReadAt}
use Rattle.tg_model_laws.specs.Tasks.{Task, Want, is_read_at, link_tasks, node_want, open_block, path_want, position_below, position_of, segment_want, start, step_tasks, tasks_of, tasks_then, terminal_want, text_at}
use Rattle.tg_model_laws.specs.Verified.{IsKnown, Verified, VerifiedLaws}
use Rattle.tg_traversal.specs.Left.{WantedAt}
use Rattle.tg_traversal.specs.Places.{is_terminal}
use Rattle.tg_verify.specs.Opening.{IsNamed, PassesAs, given_with, tasks_behind}
use Rattle.tg_verify.specs.Terminals.{AreOnPath, IsOnPath, IsTerminalAt, IsTerminalBy, IsTerminalIn, LeadsTo, block_query, terminal_behind, terminal_kind}
use Rattle.tg_verify.specs.declared.terminal.Terminal.{Terminal}

-- ---- the tasks that a block on the path leaves

want_on_path : (i : ℕ) (path : List (List ℕ)) (depth : ℕ) → IsOnPath (path_want i path depth)
want_on_path i [] depth = tt
want_on_path i (name ∷ path) depth = tt

link_on_path : (k i : ℕ) (w : Want) (xs : List CidParts) → IsOnPath w → AreOnPath (tasks_then (link_tasks k i w xs ++ []))
link_on_path k i w [] h = refl
link_on_path zero i w (x ∷ xs) h = (h, refl)
link_on_path (suc k) i w (x ∷ xs) h = link_on_path k i w xs h

step_on_path : (i : ℕ) (entry inner : Want) (step : StepTo) (xs : List CidParts) → IsOnPath entry → IsOnPath inner → AreOnPath (tasks_then (step_tasks i entry inner step xs ++ []))
step_on_path i entry inner (to_entry k) xs e h = link_on_path k (i + 1) entry xs e
step_on_path i entry inner (to_child k) xs e h = link_on_path k i inner xs h
step_on_path i entry inner absent xs e h = refl
step_on_path i entry inner not_folder_here xs e h = refl

-- ---- longer lists of sections

pub led_more : (q : QueryParts) (sections more all : List Section) (t : Terminal) → all ≡ sections ++ more → LeadsTo q sections t → LeadsTo q all t
led_more q sections more all t e h = record {
  front = h.front;
  rest = h.rest ++ more;
  whole = e ∙ ap (λ (s : List Section). s ++ more) h.whole ∙ append_assoc h.front h.rest more;
  given = h.given;
  verified = h.verified;
  before = h.before;
  last = h.last;
  places = h.places;
  is_named = h.is_named;
  kind = h.kind;
  reads = h.reads;
  told = h.told;
}

-- of what may be told
pub any_led_more : (q : QueryParts) (sections more all : List Section) (t : Option Terminal) → all ≡ sections ++ more → IfSome t (LeadsTo q sections) → IfSome t (LeadsTo q all)
any_led_more q sections more all None e h = tt
any_led_more q sections more all (Some t) e h = led_more q sections more all t e h

-- with the block that was taken
more_taken : (b : Bool) (sections : List Section) (section : Section) → (more : List Section) × (taken_if b sections section ≡ sections ++ more)
more_taken true sections section = (section ∷ [], refl)
more_taken false sections section = ([], sym (append-nil sections))

-- ---- what is told then

pub led_now : (scope : Scope) (q : QueryParts) (sections : List Section) (given : Given) (tasks : List (Task CidParts)) (t : Option Terminal) → IsTerminalIn scope q sections given tasks t
    → IfSome t (LeadsTo q sections)
led_now scopes.Block q sections given tasks None h = tt
led_now scopes.Block q sections given tasks (Some t) h = absurd (cc h)
led_now scopes.Entity q sections given tasks None h = tt
led_now scopes.Entity q sections given tasks (Some t) h = h
led_now scopes.All q sections given tasks None h = tt
led_now scopes.All q sections given tasks (Some t) h = h

-- before the first block
pub none_led : (v : VerifiedLaws) (q : QueryParts) → IsTerminalAt q [] nothing_given (start q q.root) None
none_led v q = by q.scope
  where
    on : IsTerminalBy q [] nothing_given (start q q.root) None
    on = (v.start (block_query q), (want_on_path 0 q.path 1, refl))

    by : (scope : Scope) → IsTerminalIn scope q [] nothing_given (start q q.root) None
    by scopes.Block = refl
    by scopes.Entity = on
    by scopes.All = on

-- ---- a block at its place

-- where the block alone isn't asked for, each block is read
read_everywhere : (q : QueryParts) (w : Want) → is_block q.scope ≡ false → is_read_at q w ≡ true
read_everywhere q (segment_want i position name path depth) e = refl
read_everywhere q (terminal_want depth) e = ap not e
read_everywhere q (node_want reach position depth) e = refl

-- and else the terminal's isn't
not_read : (q : QueryParts) (w : Want) → is_block q.scope ≡ true → is_terminal w ≡ true → is_read_at q w ≡ false
not_read q (segment_want i position name path depth) e t = absurd (cc t)
not_read q (terminal_want depth) e t = ap not e
not_read q (node_want reach position depth) e t = absurd (cc t)

module _ (v : VerifiedLaws) (q : QueryParts) (sections : List Section) (given : Given) (section : Section) (named : IsNamed section) (known : IsKnown q sections section) where
  -- on the path
  on_way : (w : Want) (kind : Kind) → is_terminal w ≡ false → IsOnPath w → IsReadAt (position_of w) section kind → Verified (block_query q) sections given (open_block w section.cid ∷ [])
      → IsTerminalBy q (taken_as q sections section) (up_to_next (tasks_of q w section kind (links_of kind) ++ []) (with_place w section (text_at q w section kind) given))
      (tasks_then (tasks_of q w section kind (links_of kind) ++ [])) None
  on_way (segment_want i position name path depth) kind t on here verified =
      let w = segment_want i position name path depth in (
        v.up_to_next (block_query q) (taken_as q sections section) _ (tasks_of q w section kind (links_of kind) ++ [])
            (v.taken (block_query q) sections given w section kind [] known refl here verified),
        step_on_path i (path_want (i + 1) path (depth + 1)) (segment_want i (position_below position name) name path (depth + 1)) (step_of kind (length (passed position)) name) (links_of kind)
            (want_on_path (i + 1) path (depth + 1)) tt,
      )
  on_way (terminal_want depth) kind t on here verified = absurd (cc t)
  on_way (node_want reach position depth) kind t on here verified = absurd on

  -- at the terminal
  leads_here : (w : Want) (kind : Kind) → is_terminal w ≡ true → read section.cid section.block ≡ Ok kind → Verified (block_query q) sections given (open_block w section.cid ∷ [])
      → LeadsTo q (taken_as q sections section) (terminal_kind kind)
  leads_here (segment_want i position name path depth) kind t reads verified = absurd (cc t)
  leads_here (terminal_want depth) kind t reads verified = record {
    front = taken_as q sections section;
    rest = [];
    whole = sym (append-nil (taken_as q sections section));
    given = with_place (terminal_want depth) section section.block given;
    verified = v.alone (block_query q) sections given (terminal_want depth) section [] known refl named.named verified;
    before = given.places;
    last = place_of (terminal_want depth) section;
    places = refl;
    is_named = named;
    kind = kind;
    reads = reads;
    told = refl;
  }
  leads_here (node_want reach position depth) kind t reads verified = absurd (cc t)

  module _ (limits : LimitNumbers) (at : WantedAt) (later : List (Task CidParts)) (same : section.cid ≡ at.cid)
      (here : (kind : Kind) → PassesAs q limits at section (Some kind) → IsReadAt (position_of at.want) section kind) where
    -- what stands for it with the block
    abbrev Behind : List (Task CidParts) → Option Kind → Option Terminal → Type 0
    Behind later kind t = IsTerminalBy q (taken_as q sections section) (given_with q given later at section kind) (tasks_then (tasks_behind q at section kind ++ later)) t

    first_told : (kind : Kind) → PassesAs q limits at section (Some kind) → IsTerminalBy q sections given (open_block at.want at.cid ∷ later) None
        → (b : Bool) → is_terminal at.want ≡ b → Behind later (Some kind) (terminal_behind None b (Some kind))
    first_told kind passes (verified, rest) b e =
        subst (λ (l : List (Task CidParts)). Behind l (Some kind) (terminal_behind None b (Some kind))) (sym rest.1)
        (by b e (subst (λ (cid : CidParts). Verified (block_query q) sections given (open_block at.want cid ∷ [])) (sym same)
        (subst (λ (l : List (Task CidParts)). Verified (block_query q) sections given (open_block at.want at.cid ∷ l)) rest.1 verified)))
      where
        by : (b : Bool) → is_terminal at.want ≡ b → Verified (block_query q) sections given (open_block at.want section.cid ∷ []) → Behind [] (Some kind) (terminal_behind None b (Some kind))
        by true e verified = leads_here at.want kind e passes.0.reads verified
        by false e verified = on_way at.want kind e rest.0 (here kind passes) verified

    told_next : (t : Option Terminal) (kind : Option Kind) → is_block q.scope ≡ false → PassesAs q limits at section kind → IsTerminalBy q sections given (open_block at.want at.cid ∷ later) t
        → Behind later kind (terminal_behind t (is_terminal at.want) kind)
    told_next (Some t) kind e passes h = let more = more_taken _ sections section in led_more q sections more.0 (taken_as q sections section) t more.1 h
    told_next None None e passes h = let both : false ≡ true = sym passes.1 ∙ read_everywhere q at.want e in absurd (cc both)
    told_next None (Some kind) e passes h = first_told kind passes h (is_terminal at.want) refl

    -- where the block alone is asked for none is told
    untold : (kind : Option Kind) (b : Bool) → is_terminal at.want ≡ b → is_block q.scope ≡ true → PassesAs q limits at section kind → terminal_behind None b kind ≡ None
    untold kind false t e passes = refl
    untold None true t e passes = refl
    untold (Some kind) true t e passes = let both : false ≡ true = sym (not_read q at.want e t) ∙ passes.0.is_read in absurd (cc both)

    pub next_terminal : (t : Option Terminal) (kind : Option Kind) → PassesAs q limits at section kind → IsTerminalAt q sections given (open_block at.want at.cid ∷ later) t
        → IsTerminalAt q (taken_as q sections section) (given_with q given later at section kind) (tasks_then (tasks_behind q at section kind ++ later)) (terminal_behind t (is_terminal at.want) kind)
    next_terminal t kind passes h = by q.scope refl h
      where
        by : (scope : Scope) → q.scope ≡ scope → IsTerminalIn scope q sections given (open_block at.want at.cid ∷ later) t
            → IsTerminalIn scope q (taken_as q sections section) (given_with q given later at section kind) (tasks_then (tasks_behind q at section kind ++ later)) (terminal_behind t (is_terminal at.want) kind)
        by scopes.Block e h =
            subst (λ (o : Option Terminal). terminal_behind o (is_terminal at.want) kind ≡ None) (sym h)
            (untold kind (is_terminal at.want) refl (ap is_block e) passes)
        by scopes.Entity e h = told_next t kind (ap is_block e) passes h
        by scopes.All e h = told_next t kind (ap is_block e) passes h

    -- what is told behind it, whether it is opened or not
    pub led_behind : (was t : Option Terminal) → IsTerminalAt q sections given (open_block at.want at.cid ∷ later) was
        → (t ≡ was) ⊎ ((kind : Option Kind) × PassesAs q limits at section kind × (t ≡ terminal_behind was (is_terminal at.want) kind))
        → IfSome t (LeadsTo q (taken_as q sections section))
    led_behind was t h (inl e) =
        let more = more_taken _ sections section in
        subst (λ (o : Option Terminal). IfSome o (LeadsTo q (taken_as q sections section))) (sym e)
        (any_led_more q sections more.0 (taken_as q sections section) was more.1 (led_now q.scope q sections given (open_block at.want at.cid ∷ later) was h))
    led_behind was t h (inr (kind, passes, e)) =
        subst (λ (o : Option Terminal). IfSome o (LeadsTo q (taken_as q sections section))) (sym e)
        (led_now q.scope q (taken_as q sections section) _ _ (terminal_behind was (is_terminal at.want) kind) (next_terminal was kind passes h))
