mod PlanLaws
