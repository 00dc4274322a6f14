-- A ClientHello as it is written (002 10.5.1.2), its lists given as bytes: what the writer is handed.
use Rattle.std.specs.Prelude.{List, [], ◌∷◌, ◌++◌, Bool, ℕ, ◌%◌, length, get_or, leb, eqb}
use Rattle.digest.specs.Pick.{pick}
use Rattle.message.specs.Field.{both, short, long}
use Rattle.message.specs.Handshake.{message_of, client_hello}
use Rattle.message.specs.Keys.{key_list}
use Rattle.message.specs.declared.hello.Hello.{Hello}
pub use Rattle.message.specs.Set.{bytes_at}

-- the fields in the order of the structure
pub record Given : Type 0 where
  pub version : ℕ
  pub random : List ℕ
  pub session : List ℕ
  pub client : List ℕ
  pub trusted : List ℕ
  pub suites : List ℕ
  pub methods : List ℕ
  pub numbering : ℕ
  pub refresh : ℕ

abbrev pub given_of : ℕ → List ℕ → List ℕ → List ℕ → List ℕ → List ℕ → List ℕ → ℕ → ℕ → Given
given_of version random session client trusted suites methods numbering refresh =
    record {
      version = version;
      random = random;
      session = session;
      client = client;
      trusted = trusted;
      suites = suites;
      methods = methods;
      numbering = numbering;
      refresh = refresh;
    }

-- ClientHello
abbrev pub body_of : Given → List ℕ
body_of v =
    (v.version ∷ [])
    ++ (v.random
    ++ (short v.session
    ++ (long v.client
    ++ (long v.trusted ++ (short v.suites ++ (short v.methods ++ (v.numbering ∷ v.refresh ∷ [])))))))

abbrev pub hello_from : Given → List ℕ
hello_from v = message_of client_hello (body_of v)

-- opaque random[16], SessionID<0..8>, and two lists of KeyExchangeId that are walked
unfoldable pub fields_given : List ℕ → List ℕ → List ℕ → List ℕ → Bool
fields_given random session client trusted =
    both (eqb (length random) 16) (both (leb (length session) 8) (both (key_list client) (key_list trusted)))

-- CipherSuite, of two bytes each, in <2..2^8-1>, and CompressionMethod in <1..2^8-1>
unfoldable pub offers_allowed : List ℕ → List ℕ → Bool
offers_allowed suites methods =
    both (eqb (length suites % 2) 0)
    (both (leb 2 (length suites))
    (both (leb (length suites) 255) (both (leb 1 (length methods)) (leb (length methods) 255))))

-- the values that a hello can have; 01: the message is at most 256 bytes
unfoldable pub given_allowed : Given → Bool
given_allowed v =
    both (fields_given v.random v.session v.client v.trusted)
    (both (offers_allowed v.suites v.methods) (leb (length (hello_from v)) 256))

-- what is written of values: nothing where no hello can have them
unfoldable pub sent_of : Given → List ℕ
sent_of v = pick (given_allowed v) (hello_from v) []

-- the values that stand at the places of a hello
abbrev pub given_at : List ℕ → Hello → Given
given_at m h =
    record {
      version = get_or m h.version.from 0;
      random = bytes_at m h.random;
      session = bytes_at m h.session;
      client = bytes_at m h.client;
      trusted = bytes_at m h.trusted;
      suites = bytes_at m h.suites;
      methods = bytes_at m h.methods;
      numbering = get_or m h.numbering.from 0;
      refresh = get_or m h.refresh.from 0;
    }
