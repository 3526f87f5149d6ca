-- What comes before the next place is gathered, one after another.
use Rattle.std.proofs.Common.{◌≡◌, ◌<◌, ◌≤◌, ◌+◌, ◌-◌, ◌^◌, ◌++◌, ◌∷◌, ◌∙◌, Err, List, Ok, [], Bool, true, ap, append-nil, append_assoc, arith, length, length-append, map, refl, subst, sym, ℕ}
use Rattle.std.proofs.lemmas.List.{map-append}
use Rattle.std.proofs.lemmas.List.Concat.{flat_map-append}
use Rattle.std.specs.List.{flat_map}
use Rattle.std.specs.Prelude.{Result, ⊤}
use Rattle.tg_bytes.specs.Ascii.{line_feed}
use Rattle.tg_cid.specs.Cid.{CidParts}
use Rattle.tg_listing.specs.Listings.{line_of}
use Rattle.tg_listing.specs.declared.line.ListingLine.{ListingLine}
use Rattle.tg_model.specs.Counts.{met_line}
use Rattle.tg_model.specs.Queries.{QueryParts}
use Rattle.tg_model.specs.Texts.{Named}
use Rattle.tg_model.specs.Traversal.{ListedEntry, named_met}
use Rattle.tg_model.specs.declared.kinds.Entry.{Entry}
use Rattle.tg_model.specs.declared.queries.Scope.TheVariants as scopes
use Rattle.tg_model.specs.declared.queries.Scope.{Scope}
use Rattle.tg_traversal.specs.Frames.{listed_at}
use Rattle.tg_traversal.specs.Left.{LeftState, tasks_left}
use Rattle.tg_model_laws.specs.Tasks.{Miss, Task, entries_now, give_entries, give_text, tasks_then, text_now}
use Rattle.tg_verify.specs.Counting.{HasMet}
use Rattle.tg_verify.specs.State.{OpenerState, listed_lines, listed_of, told}
use Rattle.tg_verify.specs.Steps.{IsAdvanced, IsGathered, IsGatheredBy, IsMetAt, IsNearer, IsSameOpener, StopsThere, kept_now, left_of, listed_entry}
use Rattle.tg_verify.specs.declared.fault.Refusal.TheVariants as refusals
use Rattle.tg_verify.specs.declared.fault.Refusal.{Refusal}

-- ---- entries of a listing

listed_none : (scope : Scope) → listed_of scope [] ≡ []
listed_none scopes.Block = refl
listed_none scopes.Entity = refl
listed_none scopes.All = refl

listed_one : (scope : Scope) (directory : List ℕ) (entry : Entry) → listed_entry scope entry ≡ listed_lines scope (listed_at directory entry ∷ [])
listed_one scopes.Block directory entry = refl
listed_one scopes.Entity directory entry = refl
listed_one scopes.All directory entry = refl

listed_both : (scope : Scope) (met more : List ListedEntry) → listed_of scope (met ++ more) ≡ listed_of scope met ++ listed_of scope more
listed_both scopes.Block met more = refl
listed_both scopes.Entity met more = map-append named_met met more
listed_both scopes.All met more = refl

lines_both : (scope : Scope) (met more : List ListedEntry) → listed_lines scope (met ++ more) ≡ listed_lines scope met ++ listed_lines scope more
lines_both scope met more = ap (map line_of) (listed_both scope met more) ∙ map-append line_of (listed_of scope met) (listed_of scope more)

-- ---- one comes

shorter : (old new : List (Task CidParts)) (task : Task CidParts) → old ≡ task ∷ new → length new < length old
shorter old new task e = subst (λ (tasks : List (Task CidParts)). length new < length tasks) (sym e) (omega arith)

-- the end of a line
pub line_came : (old new : OpenerState) (before ends : List ℕ) → left_of old ≡ give_text (line_feed ∷ []) ∷ left_of new → ends ≡ before ++ line_feed ∷ []
    → new.lines ≡ old.lines → new.counts ≡ old.counts → old.counts.output ≤ 2 ^ 64 - 1
    → IsNearer old before new ends × (length (left_of new) < length (left_of old))
line_came old new before ends left ends_are lines counts small = (
  record {
    text = line_feed ∷ [];
    ends_are = ends_are;
    text_is = ap text_now left;
    met_entries = [];
    entries_are = ap entries_now left;
    lines = lines ∙ sym (append-nil old.lines)
        ∙ ap (λ (more : List Named). old.lines ++ map line_of more) (sym (listed_none old.left.query.scope));
    met = λ met h. subst (λ (some : List ListedEntry). HasMet new.counts some) (sym (append-nil met)) (subst (λ counts. HasMet counts met) (sym counts) h);
    output = ap (λ counts. counts.output) counts ∙ same old.counts.output small;
    seen_blocks = ap (λ counts. counts.seen_blocks) counts;
    seen_bytes = ap (λ counts. counts.seen_bytes) counts;
    reused = ap (λ counts. counts.reused) counts;
    then_is = sym (ap tasks_then left);
  },
  shorter (left_of old) (left_of new) (give_text (line_feed ∷ [])) left,
)
  where
    same : (n : ℕ) → n ≤ 2 ^ 64 - 1 → n ≡ told (n + 0)
    same n h = omega (arith, h)

-- an entry
pub entry_came : (old mid new : OpenerState) (before : List ℕ) (directory : List ℕ) (entry : Entry) → left_of old ≡ give_entries (listed_at directory entry ∷ []) ∷ left_of mid
    → mid.lines ≡ old.lines → mid.counts ≡ old.counts → mid.left.query ≡ old.left.query → IsMetAt mid (listed_at directory entry) entry new
    → IsNearer old before new before × (length (left_of new) < length (left_of old))
entry_came old mid new before directory entry left lines counts query h =
    let m = listed_at directory entry in
    let left_now : left_of old ≡ give_entries (m ∷ []) ∷ left_of new = left ∙ ap (λ (state : LeftState). give_entries (m ∷ []) ∷ tasks_left state) (sym h.left) in (
      record {
        text = [];
        ends_are = sym (append-nil before);
        text_is = ap text_now left_now;
        met_entries = m ∷ [];
        entries_are = ap entries_now left_now;
        lines = h.lines ∙ ap (λ (some : List ListingLine). some ++ listed_entry mid.left.query.scope entry) lines
            ∙ ap (λ (more : List ListingLine). old.lines ++ more) (listed_one mid.left.query.scope directory entry)
            ∙ ap (λ (q : QueryParts). old.lines ++ listed_lines q.scope (m ∷ [])) query;
        met = λ met was. h.met met (subst (λ counts. HasMet counts met) (sym counts) was);
        output = h.output ∙ ap (λ counts. told (counts.output + length (met_line m))) counts
            ∙ ap (λ (line : List ℕ). told (old.counts.output + length line)) (sym (append-nil (met_line m)));
        seen_blocks = h.seen_blocks ∙ ap (λ counts. counts.seen_blocks) counts;
        seen_bytes = h.seen_bytes ∙ ap (λ counts. counts.seen_bytes) counts;
        reused = h.reused ∙ ap (λ counts. counts.reused) counts;
        then_is = sym (ap tasks_then left_now);
      },
      shorter (left_of old) (left_of new) (give_entries (m ∷ [])) left_now,
    )

-- ---- one after another

told_both : (was a b : ℕ) → told (told (was + a) + b) ≡ told (was + (a + b))
told_both was a b = omega arith

gathered_then : (old mid new : OpenerState) (before ends later : List ℕ) → IsNearer old before mid ends → IsSameOpener old mid → IsGathered mid ends new later
    → IsGathered old before new later
gathered_then old mid new before ends later p same q = record {
  ends_are = q.ends_are ∙ ap (λ (t : List ℕ). t ++ text_now (left_of mid)) p.ends_are ∙ append_assoc before p.text (text_now (left_of mid))
      ∙ ap (λ (t : List ℕ). before ++ t) (sym p.text_is);
  lines = q.lines ∙ ap (λ (lines : List ListingLine). lines ++ kept_now mid (left_of mid)) p.lines
      ∙ append_assoc old.lines (listed_lines old.left.query.scope p.met_entries) (kept_now mid (left_of mid))
      ∙ ap (λ (lines : List ListingLine). old.lines ++ lines)
      (ap (λ (q : QueryParts). listed_lines old.left.query.scope p.met_entries ++ listed_lines q.scope (entries_now (left_of mid))) same.query
      ∙ sym (lines_both old.left.query.scope p.met_entries (entries_now (left_of mid)))
      ∙ ap (listed_lines old.left.query.scope) (sym p.entries_are));
  met = λ met h.
      subst (HasMet new.counts) (append_assoc met p.met_entries (entries_now (left_of mid)) ∙ ap (λ (more : List ListedEntry). met ++ more) (sym p.entries_are))
      (q.met (met ++ p.met_entries) (p.met met h));
  output = q.output ∙ ap (λ (n : ℕ). told (n + length (flat_map met_line (entries_now (left_of mid))))) p.output
      ∙ told_both old.counts.output (length (flat_map met_line p.met_entries)) (length (flat_map met_line (entries_now (left_of mid))))
      ∙ ap (λ (n : ℕ). told (old.counts.output + n))
      (sym (length-append (flat_map met_line p.met_entries) (flat_map met_line (entries_now (left_of mid))))
      ∙ ap length (sym (flat_map-append met_line p.met_entries (entries_now (left_of mid))))
      ∙ ap (λ (some : List ListedEntry). length (flat_map met_line some)) (sym p.entries_are));
  seen_blocks = q.seen_blocks ∙ p.seen_blocks;
  seen_bytes = q.seen_bytes ∙ p.seen_bytes;
  reused = q.reused ∙ p.reused;
  left = q.left ∙ p.then_is;
  last = q.last;
}

stops_then : (old mid : OpenerState) (before ends : List ℕ) (miss : Miss) → IsNearer old before mid ends → StopsThere (left_of mid) miss → StopsThere (left_of old) miss
stops_then old mid before ends miss p (more, then_is) = (more, sym p.then_is ∙ then_is)

nearer_then : (old mid new : OpenerState) (before ends later : List ℕ) (result : Result ⊤ Refusal) → IsNearer old before mid ends → IsSameOpener old mid
    → IsGatheredBy mid ends new later result → IsGatheredBy old before new later result
nearer_then old mid new before ends later (Ok done) p same q = gathered_then old mid new before ends later p same q
nearer_then old mid new before ends later (Err (refusals.NotThere segment)) p same q = stops_then old mid before ends _ p q
nearer_then old mid new before ends later (Err (refusals.NotFolder segment)) p same q = stops_then old mid before ends _ p q
nearer_then old mid new before ends later (Err refusals.OutOfMemory) p same q = tt
nearer_then old mid new before ends later (Err refusals.SinkFault) p same q = absurd q
nearer_then old mid new before ends later (Err (refusals.Extra sections)) p same q = absurd q
nearer_then old mid new before ends later (Err (refusals.Limit kind number)) p same q = absurd q
nearer_then old mid new before ends later (Err (refusals.BadDigest cid)) p same q = absurd q
nearer_then old mid new before ends later (Err (refusals.WrongBlock want got)) p same q = absurd q
nearer_then old mid new before ends later (Err (refusals.BadBlock cid fault)) p same q = absurd q
nearer_then old mid new before ends later (Err (refusals.BadSize declared actual)) p same q = absurd q
nearer_then old mid new before ends later (Err (refusals.Truncated want sections)) p same q = absurd q

-- where one came
pub stepped : (old : OpenerState) (before : List ℕ) (new : OpenerState) (ends : List ℕ) (more : Bool) → more ≡ true → IsAdvanced old before new ends (Ok more)
    → IsNearer old before new ends × (length (left_of new) < length (left_of old))
stepped old before new ends more e h = subst (λ (b : Bool). IsAdvanced old before new ends (Ok b)) e h

-- however it ends, that is how it ends from the start
pub record LeadsOn (old : OpenerState) (before : List ℕ) (now : OpenerState) (ends : List ℕ) : Type 0 where
  pub same : IsSameOpener old now
  pub terminal : now.terminal ≡ old.terminal
  pub ending : (new : OpenerState) (later : List ℕ) (result : Result ⊤ Refusal) → IsGatheredBy now ends new later result → IsGatheredBy old before new later result

pub leads_none : (old : OpenerState) (before : List ℕ) → LeadsOn old before old before
leads_none old before = record { same = record { query = refl; limits = refl }; terminal = refl; ending = λ new later result h. h }

pub leads_more : (old now new : OpenerState) (before ends later : List ℕ) → LeadsOn old before now ends → IsNearer now ends new later → IsSameOpener now new
    → new.terminal ≡ now.terminal → LeadsOn old before new later
leads_more old now new before ends later h p same told = record {
  same = record { query = same.query ∙ h.same.query; limits = same.limits ∙ h.same.limits };
  terminal = told ∙ h.terminal;
  ending = λ end last result q. h.ending end last result (nearer_then now new end ends later last result p same q);
}
