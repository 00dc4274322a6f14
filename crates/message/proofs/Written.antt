-- The well-formed hellos are exactly those that are written: what is written of values is read back with the same values,
-- and a message that reads as well-formed is the one that is written of its values. From hellos whose lists are given as
-- bytes (Givens) and from the lists that are written of entries (ListsWritten, ListsRead).
use mathlib.Core.Path.{◌≡◌, ◌∙◌, ap, subst}
use mathlib.Core.List.{List}
use mathlib.Core.Bool.{true}
use mathlib.Core.Logic.{◌↔◌}
use Prim.Native.Nat.{ℕ, ◌<◌}
use lib.ListN.{length, get_or}
use lib.Dec.{leb, eqb}
use borrow.Author.Tests.{le-leb, eq-eqb}
use Rattle.message.specs.Entry.{list_allowed, entries_in}
use Rattle.message.specs.Hello.{read_of}
use Rattle.message.specs.Given.{Given, given_of, hello_from, fields_given, offers_allowed, given_allowed, sent_of, given_at}
use Rattle.message.specs.Values.{Values, bytes_of, hello_of, fields_allowed, allowed, values_in, values_at}
use Rattle.message.specs.Said.{Bytes, ListsAsWritten, HellosAsWritten}
use Rattle.message.specs.declared.hello.Hello.{Hello}
use Rattle.message.proofs.Givens as givens
use Rattle.message.proofs.Givens.{allowed_parts}
use Rattle.message.proofs.Fields.{both_split}
use Rattle.message.proofs.Rests.{bytes_part}
use Rattle.message.proofs.ListsWritten.{list_written}
use Rattle.message.proofs.ListsRead.{list_read}
use Rattle.std.specs.Prelude.{Ok}
pub use Rattle.message.proofs.Givens.{Filled, filled, fills_of}
pub use Rattle.message.specs.Values.{places_of}

-- values that a hello can have make lists of bytes that it can have
given_can : (v : Values) → allowed v ≡ true → given_allowed (bytes_of v) ≡ true
unfolding allowed fields_allowed given_allowed fields_given
given_can v h =
    let a = both_split (fields_allowed v.random v.session v.client v.trusted) _ h in
    let r = both_split (eqb (length v.random) 16) _ a.0 in
    let s = both_split (leb (length v.session) 8) _ r.1 in
    let c = both_split (list_allowed v.client) _ s.1 in
    rw (r.0, s.0, (list_written v.client c.0).0, (list_written v.trusted c.1).0) a.1

-- what is written is read back, with the same values
pub written_read : (v : Values) → allowed v ≡ true
    → (read_of (hello_of v) ≡ Ok (places_of v)) × (values_at (hello_of v) (places_of v) ≡ v)
unfolding allowed fields_allowed
written_read v h =
    let w = givens.written_read (bytes_of v) (given_can v h) in
    let e = w.1 in
    let a = both_split (fields_allowed v.random v.session v.client v.trusted) _ h in
    let r = both_split (eqb (length v.random) 16) _ a.0 in
    let s = both_split (leb (length v.session) 8) _ r.1 in
    let c = both_split (list_allowed v.client) _ s.1 in
    let client = ap (λ (g : Given). entries_in g.client) e ∙ (list_written v.client c.0).1 in
    let trusted = ap (λ (g : Given). entries_in g.trusted) e ∙ (list_written v.trusted c.1).1 in (
      w.0,
      λ i.
          record {
            version = (e i).version;
            random = (e i).random;
            session = (e i).session;
            client = client i;
            trusted = trusted i;
            suites = (e i).suites;
            methods = (e i).methods;
            numbering = (e i).numbering;
            refresh = (e i).refresh;
          },
    )

-- lists of bytes that a hello can have are written of values that it can have
values_can : (g : Given) → Bytes g.client → Bytes g.trusted → given_allowed g ≡ true
    → (allowed (values_in g) ≡ true) × (bytes_of (values_in g) ≡ g)
unfolding allowed fields_allowed given_allowed
values_can g bc bt h =
    let p = allowed_parts g h in
    let f = both_split (fields_given g.random g.session g.client g.trusted) _ h in
    let o = both_split (offers_allowed g.suites g.methods) _ f.1 in
    let c = list_read g.client bc p.client_list in
    let t = list_read g.trusted bt p.trusted_list in
    let again : bytes_of (values_in g) ≡ g =
    λ i. given_of g.version g.random g.session (c.1 i) (t.1 i) g.suites g.methods g.numbering g.refresh in (
      rw (
        eq-eqb (length g.random) 16 p.random_size,
        le-leb (length g.session) 8 p.session_size,
        c.0,
        t.0,
        o.0,
      )
          (ap (λ (k : Given). leb (length (hello_from k)) 256) again ∙ o.1),
      again,
    )

-- a message that reads as well-formed is the one that is written of its values
pub read_written : (m : List ℕ) → ((i : ℕ) → get_or m i 0 < 256) → (h : Hello) → read_of m ≡ Ok h
    → (allowed (values_at m h) ≡ true) × (hello_of (values_at m h) ≡ m)
read_written m b h e =
    let w = givens.read_written m b h e in
    let u = values_can (given_at m h) (bytes_part m h.client.from h.client.end b) (bytes_part m h.trusted.from h.trusted.end b) w.0 in
    (u.0, ap hello_from u.1 ∙ w.1)

-- and it stands at the places where it was read
pub read_places : (m : List ℕ) → ((i : ℕ) → get_or m i 0 < 256) → (h : Hello) → read_of m ≡ Ok h → places_of (values_at m h) ≡ h
read_places m b h e =
    let w = read_written m b h e in
    let r : read_of m ≡ Ok (places_of (values_at m h)) =
    subst (λ (l : List ℕ). read_of l ≡ Ok (places_of (values_at m h))) w.1 (written_read (values_at m h) w.0).0 in
    cc (e, r)

-- the well-formed hellos are exactly the hellos that are written
pub image : (m : List ℕ) → ((i : ℕ) → get_or m i 0 < 256)
    → ((h : Hello) × (read_of m ≡ Ok h)) ↔ ((v : Values) × (allowed v ≡ true) × (hello_of v ≡ m))
image m b = (
  λ w. (values_at m w.0, (read_written m b w.0 w.1).0, (read_written m b w.0 w.1).1),
  λ w. (places_of w.0, subst (λ (l : List ℕ). read_of l ≡ Ok (places_of w.0)) w.2 (written_read w.0 w.1).0),
)

pub lists_as_written : ListsAsWritten
lists_as_written = record { written = list_written; read = list_read }

pub hellos_as_written : HellosAsWritten
hellos_as_written =
    record {
      written = written_read;
      read = λ m b h e. ((read_written m b h e).0, (read_written m b h e).1, read_places m b h e);
    }

-- the writer, handed the lists of allowed values, writes their hello
pub sent_values : (v : Values) → allowed v ≡ true → sent_of (bytes_of v) ≡ hello_of v
sent_values v h = givens.sent_hello (bytes_of v) (given_can v h)

-- and it writes of no others
pub sent_only : (g : Given) → Bytes g.client → Bytes g.trusted → (length (sent_of g) ≡ 0 → ⊥)
    → (v : Values) × (allowed v ≡ true) × (bytes_of v ≡ g)
sent_only g bc bt h =
    let u = values_can g bc bt (givens.sent_allowed g h) in
    (values_in g, u.0, u.1)
