-- The ClientHello (002 10.5.1.2; 01, Handshake).
use Rattle.std.specs.Prelude.{List, ℕ, ◌+◌, ◌%◌, length, get_or, leb, eqb, Err, Ok, Result}
use Rattle.message.specs.declared.hello.Field.{Field}
use Rattle.digest.specs.Pick.{pick}
use Rattle.message.specs.Field.{field_end, short_end}
use Rattle.message.specs.Handshake.{fills, client_hello}
use Rattle.message.specs.Keys.{keys_end}
use Rattle.message.specs.declared.hello.Hello.{Hello}
use Rattle.message.specs.declared.hello.Field.TheVariants.{Header, Size, Version, Random, SessionId, ClientKeyIds, TrustedKeyIds, CipherSuites, CompressionMethods, SequenceNumberMode, KeyRefresh, Rest}
pub use Rattle.message.specs.Set.{place}

-- CipherSuite cipher_suites<2..2^8-1>, of two bytes each: "the length of an encoded vector must be an even multiple of
-- the length of a single element" (8.3)
unfoldable pub suites_end : List ℕ → ℕ → ℕ
suites_end m at = pick (eqb (get_or m at 0 % 2) 0) (short_end 2 255 m at) 0

-- the fields in the order of the structure, each told by its end: a vector's contents begin after its length
abbrev pub placed : ℕ → ℕ → ℕ → ℕ → ℕ → ℕ → ℕ → ℕ → ℕ → Hello
placed v r s c t p z n k =
    record {
      version = place 3 v;
      random = place v r;
      session = place (r + 1) s;
      client = place (s + 2) c;
      trusted = place (c + 2) t;
      suites = place (t + 1) p;
      methods = place (p + 1) z;
      numbering = place z n;
      refresh = place n k;
    }

-- a field that is not there is at fault; behind one that is there the reading goes on
unfoldable pub walk_on : ℕ → Field → (ℕ → Result Hello Field) → Result Hello Field
walk_on end fault next = pick (eqb end 0) (Err fault) (next end)

-- the fields one after the other, the last of which ends the message
abbrev pub walk_of : List ℕ → Result Hello Field
walk_of m =
    walk_on (field_end m 3 1) Version (λ v.
    walk_on (field_end m v 16) Random (λ r.
    walk_on (short_end 0 8 m r) SessionId (λ s.
    walk_on (keys_end m s) ClientKeyIds (λ c.
    walk_on (keys_end m c) TrustedKeyIds (λ t.
    walk_on (suites_end m t) CipherSuites (λ p.
    walk_on (short_end 1 255 m p) CompressionMethods (λ z.
    walk_on (field_end m z 1) SequenceNumberMode (λ n.
    walk_on (field_end m n 1) KeyRefresh (λ k.
    pick (eqb k (length m)) (Ok (placed v r s c t p z n k)) (Err Rest))))))))))

-- 01: "a ClientHello message is at most 256 bytes, laid out as in 10.5.1.2; all its lists are walked"
unfoldable pub read_of : List ℕ → Result Hello Field
read_of m = pick (fills client_hello m) (pick (leb (length m) 256) (walk_of m) (Err Size)) (Err Header)
