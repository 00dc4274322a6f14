-- A protected record of either end as it is written: its datagram has this one record, genuine, and no other.
use mathlib.Core.Path.{◌≡◌, refl, sym, ◌∙◌, ap, ap₂, subst}
use mathlib.Core.Bool.{true, false}
use mathlib.Core.List.{List, [], ◌∷◌, ◌++◌}
use Prim.Native.Nat.{ℕ, ◌+◌, ◌≤◌}
use native.Mathlib.Omega.{arith}
use lib.ListN.{length}
use Rattle.digest.specs.Bytes.{word_at}
use Rattle.digest.specs.Mac.{size_of}
use Rattle.record.specs.Datagram.{framed, framing_of}
use Rattle.record.specs.Keys.{secret_for}
use Rattle.record.specs.Protection.{record_under}
use Rattle.record.specs.declared.header.Content.{Content}
use Rattle.record.specs.declared.header.Content.TheVariants as C
use Rattle.record.specs.declared.keys.Keys.{Keys}
use Rattle.record.specs.declared.keys.Sense.{Sense}
use Rattle.record.specs.declared.reader.Record.{Record}
use Rattle.record.proofs.RoundTrip.{read_back}
use Rattle.record.proofs.ProtectedBytes.{size_most}
use Rattle.message.specs.Alert.{leveled, alert_of, alert_bytes}
use Rattle.message.specs.declared.alert.Description.{Description}
use Rattle.message.specs.declared.alert.Level.TheVariants as L
use Rattle.message.proofs.AlertLaws.{level_back, description_back}
use Rattle.demands.specs.Course.{alert_shuts}
use Rattle.demands.proofs.Wire.{protected_framed, protected_fragment}
use Rattle.ends.specs.Link.{GenuineFor}
use Rattle.ends.proofs.Courses.{in_one, same_records, content_for, content_is, Single, Warned}

module _ (k : Keys) (sense : Sense) (content : Content) (n : ℕ) (few : n ≤ 65535) (body : List ℕ) (most : length body ≤ 1300) where
  abbrev pub wired : List ℕ
  wired = record_under k sense content n body

  abbrev pub lone : Record
  lone = read_back false true content n (length body + size_of k.mac)

  pub wired_framed : framing_of wired ≡ framed (lone ∷ [])
  unfolding record_under
  wired_framed = protected_framed content n few (secret_for k sense n) k.mac body (omega (arith, size_most k.mac))

  pub wired_genuine : GenuineFor k sense wired lone body
  unfolding record_under
  wired_genuine =
      record {
        in_place = record { before = []; behind = []; framing = wired_framed };
        is_protected = refl;
        is_coded = protected_fragment content n few (secret_for k sense n) k.mac body;
      }

  pub wired_only : (r : Record) (c : List ℕ) → GenuineFor k sense wired r c → (r ≡ lone) × (c ≡ body)
  wired_only r c g =
      let one : r ≡ lone
      = in_one g.in_place.before r g.in_place.behind lone
      (same_records (g.in_place.before ++ (r ∷ g.in_place.behind)) (lone ∷ []) (framing_of wired) g.in_place.framing wired_framed) in
      (one, sym (content_is k sense [] wired r c g) ∙ ap (content_for k sense [] wired) one ∙ content_is k sense [] wired lone body wired_genuine)

-- a report
pub report_single : (k : Keys) (sense : Sense) (expected : List ℕ) (n : ℕ) → n ≤ 65535 → (bytes : List ℕ) → 1 ≤ length bytes → length bytes ≤ 1300
    → (d : List ℕ) → d ≡ record_under k sense C.Data n bytes → Single k sense expected (record { number = n; bytes = bytes; datagram = d })
report_single k sense expected n few bytes some most d e =
    record {
      r = lone k sense C.Data n few bytes most;
      framing = ap framing_of e ∙ wired_framed k sense C.Data n few bytes most;
      genuine = subst (λ x. GenuineFor k sense x (lone k sense C.Data n few bytes most) bytes) (sym e) (wired_genuine k sense C.Data n few bytes most);
      number_is = refl;
      is_data_lem = refl;
      some = some;
    }

-- a warning closes nothing
warning_harmless : (d : Description) (sum : ℕ) → alert_shuts (alert_of (alert_bytes L.Warning d sum)) ≡ false
unfolding alert_of
warning_harmless d sum =
    ap₂ (λ g s. alert_shuts (leveled g s (word_at (alert_bytes L.Warning d sum) 2))) (level_back L.Warning) (description_back d)

pub warning_written : (k : Keys) (sense : Sense) (expected : List ℕ) (n : ℕ) → n ≤ 65535 → (description : Description) (sum : ℕ) (d : List ℕ)
    → d ≡ record_under k sense C.Alert n (alert_bytes L.Warning description sum) → (r : Record) (c : List ℕ) → GenuineFor k sense d r c
    → Warned k sense expected n d r c
warning_written k sense expected n few description sum d e r c g =
    let q = wired_only k sense C.Alert n few (alert_bytes L.Warning description sum) (omega arith) r c (subst (λ x. GenuineFor k sense x r c) e g) in
    record {
      number_is = ap (λ (x : Record). x.number) q.0;
      is_alert = ap (λ (x : Record). x.content) q.0;
      harmless = ap (λ x. alert_shuts (alert_of x)) q.1 ∙ warning_harmless description sum;
    }
