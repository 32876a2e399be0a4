-- How many bytes each part of a stored image takes, and at which place of its record each field stands: document 01, "Stored image". Each
-- place is behind the part before it and each width the sum of its parts', so that a field added later changes the line behind it.
use Rattle.std.specs.Prelude.{ℕ, ◌+◌, ◌*◌}

-- a byte, a count, a number
abbrev pub byte_width : ℕ
byte_width = 1

abbrev pub count_width : ℕ
count_width = 2

abbrev pub number_width : ℕ
number_width = 4

-- "Mark 50 52 53 ("PRS"), version 00 01, purse count (1 byte), message count (2), archive count (2)"
abbrev pub version_place : ℕ
version_place = 3 * byte_width

abbrev pub purses_place : ℕ
purses_place = version_place + count_width

abbrev pub messages_place : ℕ
messages_place = purses_place + byte_width

abbrev pub entries_place : ℕ
entries_place = messages_place + count_width

abbrev pub head_width : ℕ
head_width = entries_place + count_width

-- "Details: payer 1, its number 4, payee 1, its number 4, amount 4"
abbrev pub payerseq_place : ℕ
payerseq_place = byte_width

abbrev pub payee_place : ℕ
payee_place = payerseq_place + number_width

abbrev pub payeeseq_place : ℕ
payeeseq_place = payee_place + byte_width

abbrev pub amount_place : ℕ
amount_place = payeeseq_place + number_width

abbrev pub details_width : ℕ
details_width = amount_place + number_width

-- "eight log places of 14"
abbrev pub log_width : ℕ
log_width = 8 * details_width

-- "per purse 136 bytes: balance 4, next 4, status 1, log count 1, details 14, eight log places of 14"
abbrev pub next_place : ℕ
next_place = number_width

abbrev pub status_place : ℕ
status_place = next_place + number_width

abbrev pub logged_place : ℕ
logged_place = status_place + byte_width

abbrev pub details_place : ℕ
details_place = logged_place + byte_width

abbrev pub log_place : ℕ
log_place = details_place + details_width

abbrev pub purse_width : ℕ
purse_width = log_place + log_width

-- "15 bytes a message: kind (1 request, 2 value, 3 acknowledge), details"
abbrev pub message_width : ℕ
message_width = byte_width + details_width

-- "15 bytes an archive entry: logging purse, details"
abbrev pub entry_width : ℕ
entry_width = byte_width + details_width
