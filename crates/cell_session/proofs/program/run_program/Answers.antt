use Rattle.cell_session.proofs.program.run_program.Goals as goal

pub returns-in-Ok-clause-session : goal.returns-in-Ok-clause-session
returns-in-Ok-clause-session g c = rw c.in-Ok.is (record {
  status = c.run_words.result;
  number_is = c.exit_code.ensures;
  holds = rw (← c.deref.ensures.value) c.run_words.ensures;
})

pub returns-in-Err-Usage-clause-no_text : goal.returns-in-Err-Usage-clause-no_text
returns-in-Err-Usage-clause-no_text g c = rw c.in-Err-Usage.is (λ is. record { status = c.refuse_words.result; number_is = c.exit_code-in-Err-Usage.ensures; holds = c.refuse_words.ensures.ended })
