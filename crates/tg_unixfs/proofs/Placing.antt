-- Data read by places: its causes exclude one another, and cursors over its blocksizes.
use Rattle.std.proofs.Common.{◌≡◌, ℕ, List, [], ◌∷◌, ◌++◌, refl, sym, ap, ◌∙◌, subst, inr}
use Rattle.std.specs.Prelude.{Option, unwrap_or}
use Rattle.std.proofs.lemmas.List.{append-nil}
use Rattle.tg_pbtable.specs.declared.table.Field.{Field}
use Rattle.tg_pbtable.specs.declared.table.Order.TheVariants.{Ascending}
use Rattle.tg_pbtable.specs.declared.fault.PbFault.{PbFault}
use Rattle.tg_pbtable.specs.declared.fault.PbFault.TheVariants as pb
use Rattle.tg_pbtable.specs.Message.{Message}
use Rattle.tg_pbtable.specs.Faults.{HasCause}
use Rattle.tg_pbtable.specs.Cursor.{IsNextField}
use Rattle.tg_pbtable.specs.Values.{numbers_at}
use Rattle.tg_pbtable.specs.Laws.{TableLaws}
use Rattle.tg_unixfs.specs.declared.TheConstants.{DATA}
use Rattle.tg_unixfs.specs.declared.Unix.{Unix}
use Rattle.tg_unixfs.specs.declared.UnixFault.{UnixFault}
use Rattle.tg_unixfs.specs.declared.UnixFault.TheVariants as faults
use Rattle.tg_unixfs.specs.declared.places.UnixPlaces.{UnixPlaces}
use Rattle.tg_unixfs.specs.Unix.{UnixText, HasTime, IsUnix, IsKind}
use Rattle.tg_unixfs.specs.Faults.{HasData, HasUnixCause}
use Rattle.tg_unixfs.specs.Reading.{Gathers, IsUnfit, carried, nothing}
use Rattle.tg_unixfs.specs.Places.{IsBetween, MayNotStand, placed_unix}
use Rattle.tg_unixfs.proofs.Gathering.{gathered_parts}
use Rattle.tg_unixfs.proofs.Parts.{data_table}
use Rattle.tg_unixfs.proofs.Same.{one_data}
use Rattle.tg_unixfs.proofs.Timing.{bad_time_data}

-- ---- the causes

pub data_of : (text : List ℕ) (unix : Unix) → UnixText unix text → HasData text unix
data_of text unix h = record { fields = h.fields; message = h.message; parts = h.parts; time = h.time }

-- a text of data that isn't fit
pub record HasUnfit (text : List ℕ) (fault : UnixFault) : Type 0 where
  pub unix : Unix
  pub has : HasData text unix
  pub unfit : IsUnfit unix fault

-- the data that the fields of a message gave, where it may not stand
pub unfit_there : (laws : TableLaws) (text : List ℕ) (fs : List Field) (places : UnixPlaces) (fault : UnixFault) → Message DATA.now Ascending text fs → HasTime text fs
    → Gathers text fs nothing (placed_unix text places (numbers_at 4 fs)) → MayNotStand places fault → HasUnfit text fault
unfit_there laws text fs places fault m time g none =
    let unix = placed_unix text places (numbers_at 4 fs) in
    record { unix = unix; has = record { fields = fs; message = m; parts = gathered_parts laws text fs unix m g; time = time }; unfit = none text (numbers_at 4 fs) }

unfit_data : (text : List ℕ) (unix : Unix) (fault : UnixFault) → HasData text unix → IsUnfit unix fault → HasUnixCause text fault
unfit_data text unix (faults.Pb fault) d h = absurd h
unfit_data text unix (faults.BadTime fault) d h = absurd h
unfit_data text unix (faults.BadKind number) d h = record { unix = unix; has = d; kind = h.kind; unknown = h.unknown }
unfit_data text unix (faults.BadHash number) d h = record { unix = unix; has = d; kind = h.kind; number_is = h.number_is; other = h.other }
unfit_data text unix (faults.BadFanout number) d h = record { unix = unix; has = d; kind = h.kind; hash = h.hash; number_is = h.number_is; other = h.other }
unfit_data text unix faults.OutOfMemory d h = absurd h

pub unfit_cause : (text : List ℕ) (fault : UnixFault) → HasUnfit text fault → HasUnixCause text fault
unfit_cause text fault h = unfit_data text h.unix fault h.has h.unfit

same_data : (laws : TableLaws) (text : List ℕ) (a b : Unix) → HasData text a → HasData text b → a ≡ b
same_data laws text a b p q = one_data laws text p.fields q.fields a b p.message q.message p.parts q.parts

-- the message has a fault, or the data isn't fit
cause_unfit : (laws : TableLaws) (text : List ℕ) (unix : Unix) (fault : UnixFault) → HasData text unix → HasUnixCause text fault → IsUnfit unix fault
cause_unfit laws text unix (faults.Pb fault) d h = absurd (laws.messages.no_cause DATA.now Ascending text d.fields fault (data_table laws) d.message h)
cause_unfit laws text unix (faults.BadTime fault) d h = absurd (bad_time_data laws text unix fault d h)
cause_unfit laws text unix (faults.BadKind number) d h =
    subst (λ (u : Unix). IsUnfit u (faults.BadKind number)) (same_data laws text h.unix unix h.has d) (record { kind = h.kind; unknown = h.unknown })
cause_unfit laws text unix (faults.BadHash number) d h =
    subst (λ (u : Unix). IsUnfit u (faults.BadHash number)) (same_data laws text h.unix unix h.has d) (record { kind = h.kind; number_is = h.number_is; other = h.other })
cause_unfit laws text unix (faults.BadFanout number) d h =
    subst (λ (u : Unix). IsUnfit u (faults.BadFanout number)) (same_data laws text h.unix unix h.has d) (record { kind = h.kind; hash = h.hash; number_is = h.number_is; other = h.other })
cause_unfit laws text unix faults.OutOfMemory d h = absurd h

fit_or_unfit : (unix : Unix) (fault : UnixFault) → IsUnix unix → IsUnfit unix fault → ⊥
fit_or_unfit unix (faults.Pb fault) is h = h
fit_or_unfit unix (faults.BadTime fault) is h = h
fit_or_unfit unix (faults.BadKind number) is h = h.unknown (subst (λ (n : ℕ). IsKind n) h.kind is.known)
fit_or_unfit unix (faults.BadHash number) is h = h.other (h.number_is ∙ ap (λ (o : Option ℕ). unwrap_or o 0) (is.shard h.kind).hash)
fit_or_unfit unix (faults.BadFanout number) is h = h.other (h.number_is ∙ ap (λ (o : Option ℕ). unwrap_or o 0) (is.shard h.kind).fanout)
fit_or_unfit unix faults.OutOfMemory is h = h

five_known : (unix : Unix) (number : ℕ) → unix.kind ≡ number → unix.kind ≡ 5 → IsKind number
five_known unix number e five = inr (inr (inr (inr (sym e ∙ five))))

one_unfit : (unix : Unix) (a b : UnixFault) → IsUnfit unix a → IsUnfit unix b → a ≡ b
one_unfit unix (faults.Pb fault) b h k = absurd h
one_unfit unix (faults.BadTime fault) b h k = absurd h
one_unfit unix faults.OutOfMemory b h k = absurd h
one_unfit unix (faults.BadKind m) (faults.Pb fault) h k = absurd k
one_unfit unix (faults.BadKind m) (faults.BadTime fault) h k = absurd k
one_unfit unix (faults.BadKind m) faults.OutOfMemory h k = absurd k
one_unfit unix (faults.BadKind m) (faults.BadKind n) h k = ap (λ (i : ℕ). faults.BadKind i) (sym h.kind ∙ k.kind)
one_unfit unix (faults.BadKind m) (faults.BadHash n) h k = absurd (h.unknown (five_known unix m h.kind k.kind))
one_unfit unix (faults.BadKind m) (faults.BadFanout n) h k = absurd (h.unknown (five_known unix m h.kind k.kind))
one_unfit unix (faults.BadHash m) (faults.Pb fault) h k = absurd k
one_unfit unix (faults.BadHash m) (faults.BadTime fault) h k = absurd k
one_unfit unix (faults.BadHash m) faults.OutOfMemory h k = absurd k
one_unfit unix (faults.BadHash m) (faults.BadKind n) h k = absurd (k.unknown (five_known unix n k.kind h.kind))
one_unfit unix (faults.BadHash m) (faults.BadHash n) h k = ap (λ (i : ℕ). faults.BadHash i) (h.number_is ∙ sym k.number_is)
one_unfit unix (faults.BadHash m) (faults.BadFanout n) h k = absurd (h.other (h.number_is ∙ k.hash))
one_unfit unix (faults.BadFanout m) (faults.Pb fault) h k = absurd k
one_unfit unix (faults.BadFanout m) (faults.BadTime fault) h k = absurd k
one_unfit unix (faults.BadFanout m) faults.OutOfMemory h k = absurd k
one_unfit unix (faults.BadFanout m) (faults.BadKind n) h k = absurd (k.unknown (five_known unix n k.kind h.kind))
one_unfit unix (faults.BadFanout m) (faults.BadHash n) h k = absurd (k.other (k.number_is ∙ h.hash))
one_unfit unix (faults.BadFanout m) (faults.BadFanout n) h k = ap (λ (i : ℕ). faults.BadFanout i) (h.number_is ∙ sym k.number_is)

pub unfit_given : (laws : TableLaws) (text : List ℕ) (fault other : UnixFault) → HasUnfit text fault → HasUnixCause text other → fault ≡ other
unfit_given laws text fault other h k = one_unfit h.unix fault other h.unfit (cause_unfit laws text h.unix other h.has k)

pub unix_has_none : (laws : TableLaws) (text : List ℕ) (unix : Unix) (fault : UnixFault) → UnixText unix text → HasUnixCause text fault → ⊥
unix_has_none laws text unix fault h k = fit_or_unfit unix fault h.is_unix (cause_unfit laws text unix fault (data_of text unix h) k)

-- ---- a fault of the message

pub carried_cause : (text : List ℕ) (fault : PbFault) → HasCause DATA.now Ascending text fault → HasUnixCause text (carried fault)
carried_cause text (pb.Short at) h = h
carried_cause text (pb.BadVarint at) h = h
carried_cause text (pb.Unknown at number) h = h
carried_cause text (pb.WrongWire at) h = h
carried_cause text (pb.OutOfOrder at) h = h
carried_cause text (pb.Doubled at) h = h
carried_cause text (pb.Missing number) h = h
carried_cause text pb.OutOfMemory h = absurd h

carried_is : (text : List ℕ) (fault : PbFault) → HasCause DATA.now Ascending text fault → carried fault ≡ faults.Pb fault
carried_is text (pb.Short at) h = refl
carried_is text (pb.BadVarint at) h = refl
carried_is text (pb.Unknown at number) h = refl
carried_is text (pb.WrongWire at) h = refl
carried_is text (pb.OutOfOrder at) h = refl
carried_is text (pb.Doubled at) h = refl
carried_is text (pb.Missing number) h = refl
carried_is text pb.OutOfMemory h = absurd h

pub carried_given : (laws : TableLaws) (text : List ℕ) (fault : PbFault) (other : UnixFault) → HasCause DATA.now Ascending text fault → HasUnixCause text other → carried fault ≡ other
carried_given laws text fault (faults.Pb p) h k = carried_is text fault h ∙ ap (λ (x : PbFault). faults.Pb x) (laws.messages.one_cause DATA.now Ascending text fault p (data_table laws) h k)
carried_given laws text fault (faults.BadTime time) h k = absurd (laws.messages.no_cause DATA.now Ascending text k.fields fault (data_table laws) k.message h)
carried_given laws text fault (faults.BadKind number) h k = absurd (laws.messages.no_cause DATA.now Ascending text k.has.fields fault (data_table laws) k.has.message h)
carried_given laws text fault (faults.BadHash number) h k = absurd (laws.messages.no_cause DATA.now Ascending text k.has.fields fault (data_table laws) k.has.message h)
carried_given laws text fault (faults.BadFanout number) h k = absurd (laws.messages.no_cause DATA.now Ascending text k.has.fields fault (data_table laws) k.has.message h)
carried_given laws text fault faults.OutOfMemory h k = absurd k

-- ---- cursors over the blocksizes

pub between_end : (text : List ℕ) (at : ℕ) (behind ahead : List ℕ) (b : IsBetween text at behind ahead) → b.rest ≡ [] → ahead ≡ []
between_end text at behind ahead b none = b.sizes_ahead ∙ ap (numbers_at 4) none

-- behind the next field the blocksizes that it has are behind
pub between_next : (laws : TableLaws) (text : List ℕ) (at : ℕ) (behind ahead found more : List ℕ) (f : Field) (next : ℕ) → numbers_at 4 (f ∷ []) ≡ found
    → (b : IsBetween text at behind ahead) (g : IsNextField DATA.now Ascending text b.front b.rest f next) → more ≡ numbers_at 4 g.more → (ahead ≡ found ++ more) × IsBetween text next (behind ++ found) more
between_next laws text at behind ahead found more f next e b g m = (
  b.sizes_ahead ∙ ap (numbers_at 4) g.ahead_is ∙ laws.values.numbers_append 4 (f ∷ []) g.more ∙ ap (λ (t : List ℕ). t ++ numbers_at 4 g.more) e ∙ ap (λ (t : List ℕ). found ++ t) (sym m),
  record {
    front = b.front ++ f ∷ [];
    rest = g.more;
    fields = g.between;
    sizes_behind = ap (λ (t : List ℕ). t ++ found) b.sizes_behind ∙ ap (λ (t : List ℕ). numbers_at 4 b.front ++ t) (sym e) ∙ sym (laws.values.numbers_append 4 b.front (f ∷ []));
    sizes_ahead = m;
  },
)

pub between_past : (laws : TableLaws) (text : List ℕ) (at : ℕ) (behind ahead : List ℕ) (f : Field) (next : ℕ) → numbers_at 4 (f ∷ []) ≡ []
    → (b : IsBetween text at behind ahead) → IsNextField DATA.now Ascending text b.front b.rest f next → IsBetween text next behind ahead
between_past laws text at behind ahead f next e b g =
    let h = between_next laws text at behind ahead [] (numbers_at 4 g.more) f next e b g refl in
    subst (λ (t : List ℕ). IsBetween text next t ahead) (append-nil behind) (subst (λ (t : List ℕ). IsBetween text next (behind ++ []) t) (sym h.0) h.1)
