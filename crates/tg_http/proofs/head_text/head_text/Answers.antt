use Rattle.std.proofs.Common.{inl, inr, refl}
use Rattle.tg_http.proofs.Cuts.{front_begins, begins_front}
use Rattle.tg_http.proofs.head_text.head_text.Goals as goal
use Rattle.tg_http.proofs.head_text.head_text.Goals.{in_default-via-in-Some+else-told-le-MAX_FIELDS, in_default-via-in-None+else-bytes-lt-MAX_TEXT}

pub returns-in-Some-clause-told : goal.returns-in-Some-clause-told
returns-in-Some-clause-told c =
    let found = c.in-Some.ensures.found in
    (c.in-Some.told.fields, front_begins c.args.bytes.now c.in-Some.told.bytes c.min.result c.in-Some.told.fields c.min.ensures found.0 found.1, c.if-told-le-MAX_FIELDS.true)

pub returns-in-None-clause-told : goal.returns-in-None-clause-told
returns-in-None-clause-told c = record {
  none = λ text count b.
      let front = begins_front c.args.bytes.now text c.min.result count c.min.ensures b in
      let same = c.in-None.ensures.only text front.0 count b.text_is front.1 in
      cc;
  short = c.if-bytes-lt-MAX_TEXT.true;
}

pub returns-in_default-clause-told : goal.returns-in_default-clause-told
returns-in_default-clause-told c =
    elim c.in_default.branch [
      | in_default-via-in-Some+else-told-le-MAX_FIELDS w ↦
          let found = w.in-Some.ensures.found in
          (refl, inr (_, w.in-Some.told.fields, front_begins c.args.bytes.now w.in-Some.told.bytes c.min.result w.in-Some.told.fields c.min.ensures found.0 found.1, w.if-told-le-MAX_FIELDS.false))
      | in_default-via-in-None+else-bytes-lt-MAX_TEXT w ↦ (
        refl,
        inl (
          w.if-bytes-lt-MAX_TEXT.false,
          λ text count b.
              let front = begins_front c.args.bytes.now text c.min.result count c.min.ensures b in
              let same = w.in-None.ensures.only text front.0 count b.text_is front.1 in
              cc,
        ),
      )
    ]
