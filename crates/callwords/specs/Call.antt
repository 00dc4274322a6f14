-- Which call a line makes.
use Rattle.std.specs.Prelude.{Bool, true, false, ◌&&◌, ◌||◌, List, ℕ, Option, Some, None, codes, eqb}
use Rattle.digest.specs.Pick.{pick}
use Rattle.lines.specs.Words.{spaces_in}
use Rattle.lines.specs.Said.{is_named, bytes_at, number_at}
use Rattle.callwords.specs.declared.call.Call.{Call}
use Rattle.callwords.specs.declared.call.Call.TheVariants.{Fresh, Receive, Send, Alert, Close, Start, Mac, Set, Why}

-- fresh ID SECRET WIDTH
abbrev pub fresh_words : List ℕ → Bool
fresh_words l = eqb (spaces_in l) 3 && bytes_at l 1 && bytes_at l 2 && number_at l 3 999999999

-- receive DATAGRAM RANDOM ROOM
abbrev pub receive_words : List ℕ → Bool
receive_words l = eqb (spaces_in l) 3 && bytes_at l 1 && bytes_at l 2 && number_at l 3 2048

-- send DATA ROOM
abbrev pub send_words : List ℕ → Bool
send_words l = eqb (spaces_in l) 2 && bytes_at l 1 && number_at l 2 2048

-- clear|protected
abbrev pub is_sense : List ℕ → Bool
is_sense l = is_named l 1 (codes "clear") || is_named l 1 (codes "protected")

-- alert clear|protected LEVEL DESCRIPTION RECORD ROOM
abbrev pub alert_words : List ℕ → Bool
alert_words l = eqb (spaces_in l) 5 && is_sense l && number_at l 2 255 && number_at l 3 255 && bytes_at l 4 && number_at l 5 2048

-- mac EDITION NUMBER
abbrev pub mac_words : List ℕ → Bool
mac_words l = eqb (spaces_in l) 2 && number_at l 1 255 && number_at l 2 255

-- set SUITE BYTES
abbrev pub set_words : List ℕ → Bool
set_words l = eqb (spaces_in l) 2 && number_at l 1 255 && bytes_at l 2

-- why EDITION DATAGRAM RANDOM INDEX
abbrev pub why_words : List ℕ → Bool
why_words l = eqb (spaces_in l) 4 && number_at l 1 255 && bytes_at l 2 && bytes_at l 3 && number_at l 4 999999999

-- close, start
abbrev pub no_words : List ℕ → Bool
no_words l = eqb (spaces_in l) 0

-- the call, where its words are good
abbrev pub call_if : Call → Bool → Option Call
call_if call good = pick good (Some call) None

-- the call that a line makes
unfoldable pub call_of : List ℕ → Option Call
call_of l =
    pick (is_named l 0 (codes "fresh")) (call_if Fresh (fresh_words l))
    (pick (is_named l 0 (codes "receive")) (call_if Receive (receive_words l))
    (pick (is_named l 0 (codes "send")) (call_if Send (send_words l))
    (pick (is_named l 0 (codes "alert")) (call_if Alert (alert_words l))
    (pick (is_named l 0 (codes "close")) (call_if Close (no_words l))
    (pick (is_named l 0 (codes "start")) (call_if Start (no_words l))
    (pick (is_named l 0 (codes "mac")) (call_if Mac (mac_words l))
    (pick (is_named l 0 (codes "set")) (call_if Set (set_words l))
    (pick (is_named l 0 (codes "why")) (call_if Why (why_words l)) None))))))))

-- any call but `fresh`, `mac` and `set` needs a connection
abbrev pub needs_connection : Call → Bool
needs_connection Fresh = false
needs_connection Receive = true
needs_connection Send = true
needs_connection Alert = true
needs_connection Close = true
needs_connection Start = true
needs_connection Mac = false
needs_connection Set = false
needs_connection Why = true

abbrev pub call_in : Bool → Option Call → Option Call
call_in connected None = None
call_in connected (Some call) = pick connected (Some call) (pick (needs_connection call) None (Some call))
