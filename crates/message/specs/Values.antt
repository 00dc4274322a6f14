-- A ClientHello as values, and as it is written (002 10.5.1.2).
use Rattle.std.specs.Prelude.{List, Bool, ℕ, ◌+◌, length, leb, eqb}
use Rattle.message.specs.Field.{both}
use Rattle.message.specs.Entry.{Entry, list_bytes, list_allowed, entries_in}
use Rattle.message.specs.Hello.{placed}
use Rattle.message.specs.Given.{Given, given_of, hello_from, offers_allowed, given_at}
use Rattle.message.specs.declared.hello.Hello.{Hello}

-- the fields in the order of the structure
pub record Values : Type 0 where
  pub version : ℕ
  pub random : List ℕ
  pub session : List ℕ
  pub client : List Entry
  pub trusted : List Entry
  pub suites : List ℕ
  pub methods : List ℕ
  pub numbering : ℕ
  pub refresh : ℕ

-- with both key lists written
abbrev pub bytes_of : Values → Given
bytes_of v =
    given_of v.version v.random v.session (list_bytes v.client) (list_bytes v.trusted) v.suites v.methods
    v.numbering v.refresh

abbrev pub hello_of : Values → List ℕ
hello_of v = hello_from (bytes_of v)

-- opaque random[16], SessionID<0..8>, and two lists of KeyExchangeId
unfoldable pub fields_allowed : List ℕ → List ℕ → List Entry → List Entry → Bool
fields_allowed random session client trusted =
    both (eqb (length random) 16) (both (leb (length session) 8) (both (list_allowed client) (list_allowed trusted)))

-- the values that a hello can have; 01: the message is at most 256 bytes
unfoldable pub allowed : Values → Bool
allowed v =
    both (fields_allowed v.random v.session v.client v.trusted)
    (both (offers_allowed v.suites v.methods) (leb (length (hello_of v)) 256))

-- the values of which lists of bytes are written
abbrev pub values_in : Given → Values
values_in g =
    record {
      version = g.version;
      random = g.random;
      session = g.session;
      client = entries_in g.client;
      trusted = entries_in g.trusted;
      suites = g.suites;
      methods = g.methods;
      numbering = g.numbering;
      refresh = g.refresh;
    }

-- the values that stand at the places of a hello
abbrev pub values_at : List ℕ → Hello → Values
values_at m h = values_in (given_at m h)

-- where the fields of a hello stand, by the sizes of what is written
abbrev pub places_from : Given → Hello
places_from g =
    let s = 21 + length g.session in
    let c = s + 2 + length g.client in
    let t = c + 2 + length g.trusted in
    let p = t + 1 + length g.suites in
    let z = p + 1 + length g.methods in
    placed 4 20 s c t p z (z + 1) (z + 1 + 1)

abbrev pub places_of : Values → Hello
places_of v = places_from (bytes_of v)
