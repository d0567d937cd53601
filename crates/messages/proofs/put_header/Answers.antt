-- Each field starts where the one before it ends, so that the six stores are one store of the header.
use Rattle.messages.proofs.put_header.Goals as goal

pub returns : goal.returns
returns c = rw (c.put_field-6.ensures, c.put_field-5.ensures, c.put_field-4.ensures, c.put_field-3.ensures, c.put_field-2.ensures, c.put_field.ensures)
